use Rattle.std.proofs.Common.{◌≡◌, Option, map, refl, sym, ◌∙◌, ap, subst}
use Rattle.std.specs.Option.{option_copied}
use Rattle.std.specs.String.{string_bytes}
use Rattle.call_answers.specs.CallAnswers.{ReadsNothing}
use Rattle.call_answers.specs.CommandLine.{Command, command_of}
use Rattle.call_answers.specs.Given.{told, target, GivesWhole, GivesPart}
use Rattle.mm_base.specs.Outside.{Files, Rose}
use Rattle.mmp_run.specs.Answers.{MayEndFor}
use Rattle.mmp_run.proofs.Delivered.{Delivered, due_given, given_without_files, only_words, words_ends, says_unread, cut_short, is_complete}
use Rattle.mmp_run.proofs.Delivered.{ends_not_write, ends_not_memory, ends_silent, nowhere, no_place, placed, out_stays, files_kept, out_kept}
use Rattle.mmp_run.proofs.Delivered.{since_start, in_its_place}
use Rattle.mmp_run.proofs.call.run.Goals as goal

pub deliver-requires : goal.deliver-requires
deliver-requires g c = record {
  not_write = ends_not_write _ _ _ c.in-Ok.end _ c.in-Ok.ensures.answer;
  not_memory = ends_not_memory _ _ _ c.in-Ok.end _ c.in-Ok.ensures.answer;
}

pub returns-in-Ok : goal.returns-in-Ok
returns-in-Ok g c =
    let words = map string_bytes c.args.words.now in
    let files = g.S.Store.told c.args.store.now in
    let before = g.S.Store.read_faults c.args.store.now in
    let mid = g.S.Store.read_faults c.end_words.new.store in
    let now = g.S.Store.read_faults c.deliver.new.store in
    let end = c.in-Ok.end in
    let place = option_copied c.place_of.result in
    let s = c.deliver.result in
    let old = told files (g.O.Sink.told c.args.out.now) (g.L.Sink.told c.args.log.now) in
    let new = told (g.S.Store.told c.deliver.new.store) (g.O.Sink.told c.deliver.new.out) (g.L.Sink.told c.deliver.new.log) in
    let may : MayEndFor (command_of words) files before mid end = subst (λ (o : Option Command). MayEndFor o files before mid end) c.read_words-command.ensures c.in-Ok.ensures.answer in
    let place_is : place ≡ target (command_of words) end.status = c.place_of.ensures ∙ ap (λ (o : Option Command). target o end.status) c.read_words-command.ensures in
    let d : Delivered words files before mid now end place s old new = record {
      may = may;
      fell = c.deliver.ensures.read_faults;
      place_is = place_is;
      files_are = refl;
      whole =
          λ w m. subst
          (λ (f : Option Files). GivesWhole place end s
          (told f (g.O.Sink.told c.args.out.now) (g.L.Sink.told c.args.log.now)) new) c.in-Ok.ensures.same_files
          (c.deliver.ensures.whole w m);
      part = λ w. subst (λ (f : Option Files). GivesPart place end (told f (g.O.Sink.told c.args.out.now) (g.L.Sink.told c.args.log.now)) new) c.in-Ok.ensures.same_files (c.deliver.ensures.part w);
    } in
    let replaced_before = g.S.Store.replace_faults c.args.store.now in
    let replaced_mid = g.S.Store.replace_faults c.end_words.new.store in
    let replaced_now = g.S.Store.replace_faults c.deliver.new.store in
    let OutRose : Type 0 = Rose (g.O.Sink.faults c.args.out.now) (g.O.Sink.faults c.deliver.new.out) in
    let LogRose : Type 0 = Rose (g.L.Sink.faults c.args.log.now) (g.L.Sink.faults c.deliver.new.log) in
    record {
      due = due_given words files before mid now end place s old new d;
      without_files = given_without_files words files before mid now end place s old new d;
      not_called = λ none.
          c.deliver.ensures.not_called (nowhere c.place_of.result (command_of words) end.status place_is (no_place (command_of words) none))
          ∙ c.in-Ok.ensures.not_called (subst ReadsNothing (sym c.read_words-command.ensures) none);
      complete = is_complete words files before mid now end place s old new d OutRose LogRose (λ n. Rose (replaced_before n) (replaced_now n))
          (λ w. since_start OutRose LogRose place replaced_before replaced_mid replaced_now c.in-Ok.ensures.replace_faults (c.deliver.ensures.cause w))
          (λ name e. placed place (command_of words) end.status name place_is e);
      words_only = only_words words files before mid now end place s old new d;
      words_always = words_ends words files before mid now end place s old new d;
      read = says_unread words files before mid now end place s old new d;
      write = λ w. in_its_place OutRose LogRose place (command_of words) end.status replaced_before replaced_mid replaced_now place_is c.in-Ok.ensures.replace_faults (c.deliver.ensures.cause w);
      write_part = cut_short words files before mid now end place s old new d;
      memory = λ m. let kept = c.deliver.ensures.memory m in (kept.0 ∙ c.in-Ok.ensures.same_files, kept.1, kept.2);
      kept_output = out_kept c.args.out.now c.deliver.new.out place end s old new d.whole (ends_silent files before mid end (command_of words) may)
          (λ m. (c.deliver.ensures.memory m).1) c.deliver.ensures.empty;
      kept_files =
          files_kept files (g.S.Store.told c.end_words.new.store) (g.S.Store.told c.deliver.new.store) place end s
          (command_of words) old new c.in-Ok.ensures.same_files d.whole place_is refl refl
          (λ m. (c.deliver.ensures.memory m).0);
      same_files = λ none.
          ap g.S.Store.told (c.deliver.ensures.not_called (nowhere c.place_of.result (command_of words) end.status place_is none)) ∙ c.in-Ok.ensures.same_files;
      in_place = λ some.
          out_stays c.args.out.now c.deliver.new.out c.place_of.result (command_of words) end place_is some
          (ends_silent files before mid end (command_of words) may) c.deliver.ensures.no_output c.deliver.ensures.empty;
    }
