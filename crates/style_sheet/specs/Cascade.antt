-- The attributes of a class: defaults and rules, applied one after the other.
use Rattle.std.specs.Prelude.{ℕ, ◌==◌, Bool, List, [], ◌∷◌, ◌++◌, length, take, map, filter, fold, slice_index, IfSome}
use Rattle.std.specs.List.{flat_map, range_with_len}
use Rattle.std.specs.Str.{bytes_eq}
use Rattle.cell_grid.specs.declared.attrs.Attrs.{Attrs}
use Rattle.cell_grid.specs.Attrs.{plain}
use Rattle.style_sheet.specs.declared.classes.Class.{Class}
use Rattle.style_sheet.specs.declared.changes.Flag.{Flag}
use Rattle.style_sheet.specs.declared.changes.Flag.TheVariants.{Bold, Italic, Underline, Blink, Reverse, Hidden, Strike}
use Rattle.style_sheet.specs.declared.changes.Change.{Change}
use Rattle.style_sheet.specs.declared.changes.Change.TheVariants.{Switch, Foreground, Background}
use Rattle.style_sheet.specs.ClassName.{class_name, classes, default_of}
use Rattle.style_sheet.specs.Spelling.{IsColour}
use Rattle.style_sheet.specs.StyleRule.{StyleRule}

-- the attributes with a flag on or off
abbrev pub switched : Attrs → Flag → Bool → Attrs
switched attrs Bold on = record attrs { bold = on }
switched attrs Italic on = record attrs { italic = on }
switched attrs Underline on = record attrs { underline = on }
switched attrs Blink on = record attrs { blink = on }
switched attrs Reverse on = record attrs { reverse = on }
switched attrs Hidden on = record attrs { hidden = on }
switched attrs Strike on = record attrs { strike = on }

-- the attributes after a change
abbrev pub changed : Attrs → Change → Attrs
changed attrs (Switch flag on) = switched attrs flag on
changed attrs (Foreground colour) = record attrs { fg = colour }
changed attrs (Background colour) = record attrs { bg = colour }

-- whether this is the class's name
abbrev pub is_named : List ℕ → Class → Bool
is_named name class = bytes_eq (class_name class) name

-- the default of the class with this name; there is none where no class in use has it
abbrev pub default_for : List ℕ → List Change
default_for name = flat_map default_of (filter (is_named name) classes)

-- the changes of the rules for this name, in order
abbrev pub rules_for : List StyleRule → List ℕ → List Change
rules_for rules name = flat_map (λ rule. rule.changes) (filter (λ rule. is_named name rule.class) rules)

-- first the default, and then the rules
abbrev pub changes_for : List StyleRule → List ℕ → List Change
changes_for rules name = default_for name ++ rules_for rules name

-- the places of the dots (46) among the first n bytes of a name
abbrev pub dots_before : List ℕ → ℕ → List ℕ
dots_before name n = filter (λ i. slice_index name i == 46) (range_with_len 0 n)

-- the prefixes of a dotted name, from the shortest on: what stands before each dot, and the whole
abbrev pub prefixes : List ℕ → List (List ℕ)
prefixes name = map (λ i. take i name) (dots_before name (length name)) ++ name ∷ []

-- the attributes of a class: plain, and then the changes for each prefix of its name
unfoldable pub class_attrs : List StyleRule → List ℕ → Attrs
class_attrs rules name = fold changed plain (flat_map (changes_for rules) (prefixes name))

-- attributes whose colours there are
pub record HasColours (attrs : Attrs) : Type 0 where
  pub fg : IfSome attrs.fg IsColour
  pub bg : IfSome attrs.bg IsColour
