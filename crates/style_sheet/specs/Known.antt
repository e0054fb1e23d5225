-- What a sheet keeps of the classes that it was asked for.
use Rattle.std.specs.Prelude.{◌≡◌, List, String, string_bytes, Contains}
use Rattle.std.specs.declared.alloc.Global.{Global}
use Rattle.cell_grid.specs.declared.attrs.Attrs.{Attrs}
use Rattle.style_sheet.specs.Cascade.{class_attrs}
use Rattle.style_sheet.specs.StyleRule.{StyleRule}

-- names of classes, each with the attributes that the rules give it
abbrev pub AreKnown : List StyleRule → List (String Global × Attrs) → Type 0
AreKnown rules entries = (entry : String Global × Attrs) → Contains entries entry → entry.1 ≡ class_attrs rules (string_bytes entry.0)
