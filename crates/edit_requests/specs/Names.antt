-- The names of sheets.
use Rattle.std.specs.Prelude.{⊤}
use Rattle.std.specs.Str.{IsUtf8}
use Rattle.edit_model.specs.declared.request.Request.{Request}
use Rattle.edit_model.specs.declared.request.Request.TheVariants as request

-- the name of the sheet is the UTF-8 of some characters
abbrev pub HasTextName : Request → Type 0
HasTextName request.Quit = ⊤
HasTextName (request.Ask name asked) = IsUtf8 name
