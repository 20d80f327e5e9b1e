use Rattle.mm_database.specs.Books.{database_of}
use Rattle.mmp_run.proofs.Asked.{gives_no_step, gives_open}
use Rattle.mmp_run.proofs.select.end_selection.Goals as goal

pub returns-in-NoSuchStep-clause-gives : goal.returns-in-NoSuchStep-clause-gives
returns-in-NoSuchStep-clause-gives c = λ kinds text opened.
    rw c.in-NoSuchStep.is (gives_no_step (database_of kinds text c.args.db.now.rows c.args.db.now.parsed) c.args.step.now c.refuse_name.result c.refuse_name.ensures)

pub returns-in-StepOpen-clause-gives : goal.returns-in-StepOpen-clause-gives
returns-in-StepOpen-clause-gives c = λ kinds text opened.
    rw c.in-StepOpen.is (gives_open (database_of kinds text c.args.db.now.rows c.args.db.now.parsed) c.args.step.now c.refuse_open.result c.refuse_open.ensures)

pub returns-in-Fits-clause-gives : goal.returns-in-Fits-clause-gives
returns-in-Fits-clause-gives c = λ kinds text opened.
    let shows = c.end_labels.ensures.shows kinds text opened in
    rw c.in-Fits.is (rw (← c.as_slice.ensures) shows)
