-- What binding a worksheet to its database gives: its texts, or the answer that it is not bound.
use Rattle.std.specs.Prelude.{ℕ, List}
use Rattle.std.proofs.Common.{sym, subst}
use Rattle.fault_lines.specs.Refusals.{too_much}
use Rattle.mm_base.specs.declared.kinds.Kinds.{Kinds}
use Rattle.mm_database.specs.Books.{database_of}
use Rattle.mm_database.specs.Opened.{Opened, IsOpened}
use Rattle.mm_model.specs.Book.{Database}
use Rattle.sheet_bind.specs.declared.faults.BindFault.{BindFault}
use Rattle.sheet_bind.specs.declared.faults.BindFault.TheVariants as bound
use Rattle.sheet_bind.specs.Results.{IsBound, IsRefused}
use Rattle.sheet_text.specs.declared.sheet.Sheet.{Sheet}
use Rattle.sheet_unify.specs.Answered.{SaysSheet, IsFaultOf}
use Rattle.sheet_unify.specs.Made.{IsBoundSheet, HasText, IsSaid, HasTexts}
use Rattle.sheet_unify.specs.Told.{of_binding}
use Rattle.solve_model.specs.declared.bound.Bound.{Bound}
use Rattle.written_model.specs.declared.options.Options.{Options}
use Rattle.written_model.specs.Written.{Answers, refused, unbound, much}

pub bound_sheet : (db : Database) (text : List ℕ) (sheet : Sheet) (b : Bound) → SaysSheet text sheet → IsBound db sheet b → IsBoundSheet db text sheet b
bound_sheet db text sheet b says is = record { says = says; binds = is.binds; within_limit = is.size }

pub has_texts : (kinds : Kinds) (d : Opened) (sheet : Sheet) (b : Bound) → HasText kinds d → IsSaid sheet
    → ((text : List ℕ) → IsOpened kinds text d → IsBound (database_of kinds text d.rows d.parsed) sheet b) → HasTexts kinds d sheet b
has_texts kinds d sheet b has said is = record {
  database = has.database;
  text = said.text;
  opened = has.opened;
  bound_sheet = bound_sheet (database_of kinds has.database d.rows d.parsed) said.text sheet b said.says (is has.database has.opened);
}

-- the binder's error, as it is told
pub told_unbound : (db : Database) (text : List ℕ) (options : Options) (sheet : Sheet) (f : BindFault) → SaysSheet text sheet → IsRefused db sheet f → IsFaultOf db text options (of_binding f)
told_unbound db text options sheet (bound.At code line) says is = unbound says.sound says.reads is
told_unbound db text options sheet (bound.TooMuch n) says is = subst (λ (m : ℕ). Answers db text options (refused (too_much m))) (sym is.size) (much says.sound says.reads is.binds is.over)
told_unbound db text options sheet bound.Memory says is = tt
