use Rattle.mm_base.proofs.Places.{files_of-kept, rooms_of-kept}
use Rattle.mm_base.proofs.memory_store.MemStore.new.Goals as goal

pub returns-clause-files : goal.returns-clause-files
returns-clause-files c = files_of-kept c.args.room c.in_ok-kept.kept.items c.args.files c.in_ok-kept.ensures

pub returns-clause-rooms : goal.returns-clause-rooms
returns-clause-rooms c = rooms_of-kept c.args.room c.in_ok-kept.kept.items c.args.files c.in_ok-kept.ensures
