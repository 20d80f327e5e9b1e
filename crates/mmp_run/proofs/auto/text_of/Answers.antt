use Rattle.std.proofs.Common.{refl}
use Rattle.std.proofs.lemmas.Result.{IfOk-weaker}
use Rattle.mm_database.specs.Books.{database_of}
use Rattle.mmp_run.proofs.Filled.{is_of_writing}
use Rattle.mmp_run.proofs.auto.text_of.Goals as goal

pub returns : goal.returns
returns c = λ text w opened written.
    IfOk-weaker c.filled_text.result _ _ (λ t is. is c.args.options.now.kinds text c.args.options.now w opened
    (is_of_writing (database_of c.args.options.now.kinds text c.args.db.now.rows c.args.db.now.parsed) c.args.options.now w c.args.outcome _ written refl refl refl c.as_slice.ensures))
    c.filled_text.ensures
