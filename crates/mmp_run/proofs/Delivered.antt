-- What the status of a call and its texts say, from the ending that was delivered.
use Rattle.std.proofs.Common.{◌≡◌, ◌≢◌, ◌≤◌, ◌⊎◌, ℕ, Bool, cond, List, [], Option, Some, None, option_map, MatchOption, IfSome, IsSomeAnd, IsNone}
use Rattle.std.proofs.Common.{IsSome, option_and_then, true, false, refl, sym, ◌∙◌, ap, subst, inl, inr, arith}
use Rattle.std.specs.Borrow.{Bor}
use Rattle.std.specs.Option.{option_copied}
use Rattle.call_answers.specs.declared.ending.Ending.{Ending}
use Rattle.call_answers.specs.CallAnswers.{CallAnswer, bad_words, ReadsNothing, database_of, no_files}
use Rattle.call_answers.specs.CommandLine.{Command, unify, verify, trial, export, install, select, auto, command_of, usage_line}
use Rattle.call_answers.specs.Given.{Told, is_written, in_place_of, target, IsSettled, GivesWhole, GivesPart, IsPut, IsGiven, IsReadFault, SaysReadFault, NoReadFault, MayAnswer, IsCutShort}
use Rattle.mm_base.specs.Outside.{Files, Rose, NoneFell}
use Rattle.mm_base.specs.declared.status.Status.{Status}
use Rattle.mm_base.specs.declared.status.Status.TheVariants.{Finished, Unfinished, Database, Sheet, Words, Read, Write, Memory, Proof}
use Rattle.mm_model.specs.Names.{Name}
use Rattle.mmp_run.specs.Answers.{MayEndFor}
use Rattle.mmp_run.specs.Refusals.{usage}
use Rattle.mmp_run.proofs.MayEnd.{rose_since}
use Rattle.mmp_run.proofs.Refusals.{refuses}

-- every status is settled, or one of the three failures
kinds : (s : Status) → IsSettled s ⊎ ((s ≡ Read) ⊎ ((s ≡ Write) ⊎ (s ≡ Memory)))
kinds Finished = inl tt
kinds Unfinished = inl tt
kinds Database = inl tt
kinds Sheet = inl tt
kinds Words = inl tt
kinds Read = inr (inl refl)
kinds Write = inr (inr (inl refl))
kinds Memory = inr (inr (inr refl))
kinds Proof = inl tt

not_write : (s : Status) → IsSettled s → s ≢ Write
not_write s settled e = subst IsSettled e settled

not_memory : (s : Status) → IsSettled s → s ≢ Memory
not_memory s settled e = subst IsSettled e settled

not_read : (s : Status) → IsSettled s → s ≢ Read
not_read s settled e = subst IsSettled e settled

words_apart : (Words ≢ Read) × (Words ≢ Write) × (Words ≢ Memory)
words_apart = ((λ e. cc), (λ e. cc), (λ e. cc))

read_apart : (Read ≢ Write) × (Read ≢ Memory)
read_apart = ((λ e. cc), (λ e. cc))

memory_not_write : Memory ≢ Write
memory_not_write e = cc

is_read_or_not : (s : Status) → (s ≡ Read) ⊎ (s ≢ Read)
is_read_or_not s = elim (kinds s) [
  | inl settled ↦ inr (not_read s settled)
  | inr (inl is) ↦ inl is
  | inr (inr (inl is)) ↦ inr (λ e. read_apart.0 (sym e ∙ is))
  | inr (inr (inr is)) ↦ inr (λ e. read_apart.1 (sym e ∙ is))
]

is_memory_or_not : (s : Status) → (s ≡ Memory) ⊎ (s ≢ Memory)
is_memory_or_not s = elim (kinds s) [
  | inl settled ↦ inr (not_memory s settled)
  | inr (inl is) ↦ inr (λ e. read_apart.1 (sym is ∙ e))
  | inr (inr (inl is)) ↦ inr (λ e. memory_not_write (sym e ∙ is))
  | inr (inr (inr is)) ↦ inl is
]

some_not_none : {X : Type 0} (x : X) → IsNone (Some x) → ⊥
some_not_none x e = cc

-- ---- an ending that a call may have

module _ (files : Option Files) (before mid : Name → ℕ) (end : Ending) where
  abbrev May : Option Command → Type 0
  May o = MayEndFor o files before mid end

  pub end_is_usage : (o : Option Command) → May o → IsNone o → end ≡ usage
  end_is_usage None may none = may.by_words
  end_is_usage (Some c) may none = absurd (some_not_none c none)

  pub is_no_command : (o : Option Command) → May o → end.status ≡ Words → IsNone o
  is_no_command None may e = refl
  is_no_command (Some c) may e = absurd (may.by_words.not_words e)

  pub ends_not_write : (o : Option Command) → May o → end.status ≢ Write
  ends_not_write None may e = words_apart.1 (sym (ap (λ (x : Ending). x.status) may.by_words) ∙ e)
  ends_not_write (Some c) may e = may.by_words.not_write e

  pub ends_not_memory : (o : Option Command) → May o → end.status ≢ Memory
  ends_not_memory None may e = words_apart.2 (sym (ap (λ (x : Ending). x.status) may.by_words) ∙ e)
  ends_not_memory (Some c) may e = may.by_words.not_memory e

  pub ends_silent : (o : Option Command) → May o → is_written end.status ≡ false → end.out ≡ []
  ends_silent None may e = ap (λ (x : Ending). x.out) may.by_words
  ends_silent (Some c) may e = may.by_words.silent e

  answered : (o : Option Command) → May o → end.status ≢ Read → IfSome files (λ f. CallAnswer f o end)
  answered None may n = usage_answers files
    where
      usage_answers : (t : Option Files) → IfSome t (λ f. CallAnswer f None end)
      usage_answers None = tt
      usage_answers (Some f) = bad_words (refuses end Words usage_line may.by_words)
  answered (Some c) may n = may.by_words.due n

  answered_without_files : (o : Option Command) → May o → ReadsNothing o → CallAnswer no_files o end
  answered_without_files None may none = bad_words (refuses end Words usage_line may.by_words)
  answered_without_files (Some c) may none = may.by_words.without_files none

  unread : (o : Option Command) → May o → end.status ≡ Read → IsSomeAnd o (λ c. IsReadFault c files before mid end)
  unread None may e = absurd (words_apart.0 (sym (ap (λ (x : Ending). x.status) may.by_words) ∙ e))
  unread (Some c) may e = may.by_words.read e

later : (before mid now : ℕ) → mid ≤ now → Rose before mid → Rose before now
later before mid now fell rose = omega arith

fault_later : (command : Command) (files : Option Files) (before mid now : Name → ℕ) (end : Ending) → NoneFell mid now
    → IsReadFault command files before mid end → IsReadFault command files before now end
fault_later command files before mid now end fell f =
    record {
      name = f.name;
      named = f.named;
      in_turn = f.in_turn;
      rose = later (before f.name) (mid f.name) (now f.name) (fell f.name) f.rose;
      says = f.says;
    }

by_words : (files : Option Files) (before mid now : Name → ℕ) (end : Ending) (o : Option Command) → NoneFell mid now → MayEndFor o files before mid end
    → MatchOption (option_and_then database_of o) (CallAnswer no_files o end)
    (λ database. IfSome files (λ f. CallAnswer f o end) ⊎ IsSomeAnd o (λ command. IsReadFault command files before now end))
by_words files before mid now end None fell may = bad_words (refuses end Words usage_line may.by_words)
by_words files before mid now end (Some c) fell may = by_database (database_of c) refl
  where
    by_database : (d : Option Name) → database_of c ≡ d
        → MatchOption d (CallAnswer no_files (Some c) end) (λ database. IfSome files (λ f. CallAnswer f (Some c) end) ⊎ IsReadFault c files before now end)
    by_database None is = may.by_words.without_files (subst (λ (d : Option Name). IsNone d) (sym is) refl)
    by_database (Some database) is = elim (is_read_or_not end.status) [
      | inl read ↦ inr (fault_later c files before mid now end fell (may.by_words.read read))
      | inr other ↦ inl (may.by_words.due other)
    ]

not_written : (s : Status) (o : Option Command) → is_written s ≡ false → target o s ≡ None
not_written s o e = rw e refl

-- ---- what a call has done: its words, its ending, and what stands outside before it, behind its reads and behind it
pub record Delivered (words : List Name) (files : Option Files) (before mid now : Name → ℕ) (end : Ending) (place : Option Name) (s : Status) (old new : Told) : Type 0 where
  pub may : MayEndFor (command_of words) files before mid end
  pub fell : NoneFell mid now
  pub place_is : place ≡ target (command_of words) end.status
  pub files_are : old.files ≡ files
  pub whole : s ≢ Write → s ≢ Memory → GivesWhole place end s old new
  pub part : s ≡ Write → GivesPart place end old new

module _ (words : List Name) (files : Option Files) (before mid now : Name → ℕ) (end : Ending) (place : Option Name) (s : Status) (old new : Told) where
  abbrev Done : Type 0
  Done = Delivered words files before mid now end place s old new

  gives : Done → IsSettled s → GivesWhole (target (command_of words) end.status) end s old new
  gives d settled = subst (λ (p : Option Name). GivesWhole p end s old new) d.place_is (d.whole (not_write s settled) (not_memory s settled))

  pub due_given : Done → IsSettled s → IfSome files (λ f. IsGiven words f s old new)
  due_given d settled =
      let g = gives d settled in
      let not_unread : end.status ≢ Read = λ e. not_read s settled (sym g.status ∙ e) in
      given files (answered files before mid end (command_of words) d.may not_unread) g
    where
      given : (t : Option Files) → IfSome t (λ f. CallAnswer f (command_of words) end) → GivesWhole (target (command_of words) end.status) end s old new → IfSome t (λ f. IsGiven words f s old new)
      given None a g = tt
      given (Some f) a g = record { end = end; answer = a; gives = g }

  pub given_without_files : Done → ReadsNothing (command_of words) → IsSettled s → IsGiven words no_files s old new
  given_without_files d none settled = record { end = end; answer = answered_without_files files before mid end (command_of words) d.may none; gives = gives d settled }

  pub only_words : Done → s ≡ Words → IsNone (command_of words)
  only_words d e =
      let g = d.whole (λ w. words_apart.1 (sym e ∙ w)) (λ m. words_apart.2 (sym e ∙ m)) in
      is_no_command files before mid end (command_of words) d.may (g.status ∙ e)

  pub words_ends : Done → IsNone (command_of words) → (s ≡ Words) ⊎ ((s ≡ Memory) ⊎ (s ≡ Write))
  words_ends d none = elim (kinds s) [
    | inl settled ↦ inl (sym (gives d settled).status ∙ ap (λ (x : Ending). x.status) (end_is_usage files before mid end (command_of words) d.may none))
    | inr (inl is) ↦
        let g = d.whole (λ w. read_apart.0 (sym is ∙ w)) (λ m. read_apart.1 (sym is ∙ m)) in
        inl (sym g.status ∙ ap (λ (x : Ending). x.status) (end_is_usage files before mid end (command_of words) d.may none))
    | inr (inr (inl is)) ↦ inr (inr is)
    | inr (inr (inr is)) ↦ inr (inl is)
  ]

  pub says_unread : Done → s ≡ Read → IsSomeAnd (command_of words) (λ command. SaysReadFault command before now old new)
  says_unread d e =
      let g = d.whole (λ w. read_apart.0 (sym e ∙ w)) (λ m. read_apart.1 (sym e ∙ m)) in
      let nowhere : place ≡ None = d.place_is ∙ not_written end.status (command_of words) (ap is_written (g.status ∙ e)) in
      says (command_of words) (unread files before mid end (command_of words) d.may (g.status ∙ e))
      (subst (λ (r : Status). GivesWhole None end r old new) e (subst (λ (p : Option Name). GivesWhole p end s old new) nowhere g))
    where
      says : (o : Option Command) → IsSomeAnd o (λ c. IsReadFault c files before mid end) → GivesWhole None end Read old new → IsSomeAnd o (λ c. SaysReadFault c before now old new)
      says None f g = f
      says (Some c) f g = record {
        end = end;
        fault = subst (λ (t : Option Files). IsReadFault c t before now end) (sym d.files_are) (fault_later c files before mid now end d.fell f);
        gives = g;
      }

  pub cut_short : Done → s ≡ Write → IsCutShort words before now old new
  cut_short d e = record {
    end = end;
    may = subst (λ (t : Option Files). MayAnswer words t before now end) (sym d.files_are) (by_words files before mid now end (command_of words) d.fell d.may);
    part = subst (λ (p : Option Name). GivesPart p end old new) d.place_is (d.part e);
  }

  for_both : (o : Option Command) (t : Option Files) (P : Command → Files → Type 0)
      → ((command : Command) (f : Files) → o ≡ Some command → t ≡ Some f → P command f) → IfSome o (λ command. IfSome t (λ f. P command f))
  for_both None t P each = tt
  for_both (Some command) None P each = tt
  for_both (Some command) (Some f) P each = each command f refl refl

  -- where nothing failed
  pub is_complete : Done → (OutRose LogRose : Type 0) (FileRose : Name → Type 0) → (s ≡ Write → OutRose ⊎ (LogRose ⊎ IsSomeAnd place FileRose))
      → ((name : Name) → place ≡ Some name → in_place_of (command_of words) ≡ Some name)
      → IfSome (command_of words) (λ command. IfSome files (λ f.
      NoReadFault command before now → IfSome (in_place_of (Some command)) (λ name. ¬ FileRose name) → ¬ OutRose → ¬ LogRose → (s ≡ Memory) ⊎ IsGiven words f s old new))
  is_complete d OutRose LogRose FileRose cause placed =
      for_both (command_of words) files
      (λ command f. NoReadFault command before now → IfSome (in_place_of (Some command)) (λ name. ¬ FileRose name) → ¬ OutRose → ¬ LogRose → (s ≡ Memory) ⊎ IsGiven words f s old new)
      (λ command f is_command is_told no_read no_file no_out no_log. elim (kinds s) [
        | inl settled ↦ let given = due_given d settled in inr (rw is_told at given)
        | inr (inl is) ↦
            let says = says_unread d is in
            let fault : SaysReadFault command before now old new = rw is_command at says in
            absurd (no_read fault.fault.name fault.fault.named fault.fault.rose)
        | inr (inr (inl is)) ↦ absurd (elim (cause is) [
          | inl rose ↦ no_out rose
          | inr (inl rose) ↦ no_log rose
          | inr (inr rose) ↦ in_no_file command place (λ name e. sym (ap in_place_of is_command) ∙ placed name e) no_file rose
        ])
        | inr (inr (inr is)) ↦ inl is
      ])
    where
      in_no_file : (command : Command) (p : Option Name) → ((name : Name) → p ≡ Some name → in_place_of (Some command) ≡ Some name)
          → IfSome (in_place_of (Some command)) (λ name. ¬ FileRose name) → IsSomeAnd p FileRose → ⊥
      in_no_file command None at still rose = rose
      in_no_file command (Some name) at still rose = let there = at name refl in (rw there at still) rose

-- ---- where the text goes

none_back : {X Y : Type 0} (f : X → Y) (o : Option X) → option_map f o ≡ None → IsNone o
none_back f None e = refl
none_back f (Some x) e = let clash : Some (f x) ≡ None = e in cc

some_back : {X Y : Type 0} (f : X → Y) (o : Option X) (y : Y) → option_map f o ≡ Some y → IsSome o
some_back f None y e = let clash : None ≡ Some y = e in cc
some_back f (Some x) y e = refl

none_of : {X : Type 0} (o : Option X) → IsNone o → o ≡ None
none_of None e = refl
none_of (Some x) e = absurd (some_not_none x e)

cond_none : {X : Type 0} (b : Bool) (o : Option X) → IsNone o → cond b o None ≡ None
cond_none true o e = none_of o e
cond_none false o e = refl

-- the text goes to the output
pub nowhere : (place : Option (Bor Name)) (o : Option Command) (s : Status) → option_copied place ≡ target o s → IsNone (in_place_of o) → IsNone place
nowhere place o s e none = none_back (λ (b : Bor Name). b.now) place (e ∙ cond_none (is_written s) (in_place_of o) none)

pub no_place : (o : Option Command) → ReadsNothing o → IsNone (in_place_of o)
no_place None e = refl
no_place (Some (unify command is_in_place)) e = absurd (some_not_none command.database e)
no_place (Some (verify command)) e = refl
no_place (Some (trial count)) e = refl
no_place (Some (export options command)) e = refl
no_place (Some (install command)) e = refl
no_place (Some (select command step)) e = refl
no_place (Some (auto command)) e = refl

-- it goes into the worksheet's file
in_file : (place : Option Name) (o : Option Command) (b : Bool) (name : Name) → place ≡ cond b (in_place_of o) None → place ≡ Some name → in_place_of o ≡ Some name
in_file place o true name e is = sym e ∙ is
in_file place o false name e is = let clash : None ≡ Some name = sym e ∙ is in cc

pub placed : (place : Option Name) (o : Option Command) (s : Status) (name : Name) → place ≡ target o s → place ≡ Some name → in_place_of o ≡ Some name
placed place o s name e is = in_file place o (is_written s) name e is

pub replaced : (place : Option Name) (o : Option Command) (s : Status) (before mid now : Name → ℕ) → place ≡ target o s → NoneFell before mid → IsSomeAnd place (λ name. Rose (mid name) (now name))
    → IsSomeAnd (in_place_of o) (λ name. Rose (before name) (now name))
replaced None o s before mid now e fell rose = absurd rose
replaced (Some name) o s before mid now e fell rose =
    let there : in_place_of o ≡ Some name = placed (Some name) o s name e refl in
    subst (λ (p : Option Name). IsSomeAnd p (λ n. Rose (before n) (now n))) (sym there) (rose_since (before name) (mid name) (now name) (fell name) rose)

some_or_none : {X : Type 0} (o : Option X) → IsSome o → (x : X) × (o ≡ Some x)
some_or_none None e = let clash : false ≡ true = e in absurd (cc)
some_or_none (Some x) e = (x, refl)

-- with a worksheet in its own place nothing is written to the output
pub out_stays : {T : Type 0} (old new : T) (place : Option (Bor Name)) (o : Option Command) (end : Ending) → option_copied place ≡ target o end.status → IsSome (in_place_of o)
    → (is_written end.status ≡ false → end.out ≡ []) → (IsSome place → new ≡ old) → (end.out ≡ [] → new ≡ old) → new ≡ old
out_stays old new place o end e some silent placed empty = by_status (is_written end.status) refl
  where
    by_status : (b : Bool) → is_written end.status ≡ b → new ≡ old
    by_status false is = empty (silent is)
    by_status true is =
        let name = some_or_none (in_place_of o) some in
        let there : option_copied place ≡ Some name.0 = e ∙ ap (λ (b : Bool). cond b (in_place_of o) None) is ∙ name.1 in
        placed (some_back (λ (b : Bor Name). b.now) place name.0 there)

status_written : (s t : Status) → s ≡ t → is_written t ≡ false → is_written s ≡ false
status_written s t e is = ap is_written e ∙ is

-- no file changes where nothing is written
pub files_kept : (old mid new : Option Files) (place : Option Name) (end : Ending) (s : Status) (o : Option Command) (before after : Told) → mid ≡ old
    → (s ≢ Write → s ≢ Memory → GivesWhole place end s before after)
    → place ≡ target o end.status → before.files ≡ old → after.files ≡ new → (s ≡ Memory → new ≡ mid) → is_written s ≡ false → s ≢ Write → new ≡ old
files_kept old mid new place end s o before after same whole e was now memory not other = elim (is_memory_or_not s) [
  | inl is ↦ memory is ∙ same
  | inr differs ↦
      let g = whole other differs in
      let none : place ≡ None = e ∙ not_written end.status o (status_written end.status s g.status not) in
      let put = subst (λ (p : Option Name). IsPut p end.out before after) none g.text in
      sym now ∙ put.0 ∙ was
]

-- nor does the output
pub out_kept : {T : Type 0} (old new : T) (place : Option Name) (end : Ending) (s : Status) (before after : Told) → (s ≢ Write → s ≢ Memory → GivesWhole place end s before after)
    → (is_written end.status ≡ false → end.out ≡ []) → (s ≡ Memory → new ≡ old) → (end.out ≡ [] → new ≡ old) → is_written s ≡ false → s ≢ Write → new ≡ old
out_kept old new place end s before after whole silent memory empty not other = elim (is_memory_or_not s) [
  | inl is ↦ memory is
  | inr differs ↦ empty (silent (status_written end.status s (whole other differs).status not))
]

-- what failed, since the call began
pub since_start : (A B : Type 0) (place : Option Name) (before mid now : Name → ℕ) → NoneFell before mid → A ⊎ (B ⊎ IsSomeAnd place (λ n. Rose (mid n) (now n)))
    → A ⊎ (B ⊎ IsSomeAnd place (λ n. Rose (before n) (now n)))
since_start A B place before mid now fell (inl a) = inl a
since_start A B place before mid now fell (inr (inl b)) = inr (inl b)
since_start A B None before mid now fell (inr (inr rose)) = absurd rose
since_start A B (Some name) before mid now fell (inr (inr rose)) = inr (inr (rose_since (before name) (mid name) (now name) (fell name) rose))

pub in_its_place : (A B : Type 0) (place : Option Name) (o : Option Command) (s : Status) (before mid now : Name → ℕ) → place ≡ target o s
    → NoneFell before mid → A ⊎ (B ⊎ IsSomeAnd place (λ n. Rose (mid n) (now n)))
    → A ⊎ (B ⊎ IsSomeAnd (in_place_of o) (λ n. Rose (before n) (now n)))
in_its_place A B place o s before mid now e fell (inl a) = inl a
in_its_place A B place o s before mid now e fell (inr (inl b)) = inr (inl b)
in_its_place A B place o s before mid now e fell (inr (inr rose)) = inr (inr (replaced place o s before mid now e fell rose))
