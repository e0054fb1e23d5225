-- What a contract sees of a rule of a sheet, and of a sheet: the list of its rules.
use Rattle.std.specs.Prelude.{List}
use Rattle.style_sheet.specs.declared.classes.Class.{Class}
use Rattle.style_sheet.specs.declared.changes.Change.{Change}

-- the class that it is for, and what it changes, in order
pub record StyleRule : Type 0 where
  pub class : Class
  pub changes : List Change
