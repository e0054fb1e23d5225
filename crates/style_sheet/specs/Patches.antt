-- Patches: what changes together do, whatever the attributes were before.
use Rattle.std.specs.Prelude.{◌≡◌, Bool, None, Some, List, fold, slice_index_or, unwrap_or}
use Rattle.cell_grid.specs.declared.attrs.Attrs.{Attrs}
use Rattle.style_sheet.specs.declared.classes.Class.{Class}
use Rattle.style_sheet.specs.declared.changes.Flag.{Flag}
use Rattle.style_sheet.specs.declared.changes.Flag.TheVariants.{Bold, Italic, Underline, Blink, Reverse, Hidden, Strike}
use Rattle.style_sheet.specs.declared.changes.Change.{Change}
use Rattle.style_sheet.specs.declared.changes.Change.TheVariants.{Switch, Foreground, Background}
use Rattle.style_sheet.specs.declared.patches.Patch.{Patch}
use Rattle.style_sheet.specs.ClassName.{class_name, place}
use Rattle.style_sheet.specs.Cascade.{changed, rules_for}
use Rattle.style_sheet.specs.StyleRule.{StyleRule}

-- the patch that sets nothing
abbrev pub no_changes : Patch
no_changes = record {
  fg = None;
  bg = None;
  bold = None;
  italic = None;
  underline = None;
  blink = None;
  reverse = None;
  hidden = None;
  strike = None;
}

-- the attributes after a patch: what it sets is as it says, and the rest as before
abbrev pub patched : Attrs → Patch → Attrs
patched attrs patch = record {
  fg = unwrap_or patch.fg attrs.fg;
  bg = unwrap_or patch.bg attrs.bg;
  bold = unwrap_or patch.bold attrs.bold;
  italic = unwrap_or patch.italic attrs.italic;
  underline = unwrap_or patch.underline attrs.underline;
  blink = unwrap_or patch.blink attrs.blink;
  reverse = unwrap_or patch.reverse attrs.reverse;
  hidden = unwrap_or patch.hidden attrs.hidden;
  strike = unwrap_or patch.strike attrs.strike;
}

-- the patch that also sets a flag
abbrev pub set_flag : Patch → Flag → Bool → Patch
set_flag patch Bold on = record patch { bold = Some on }
set_flag patch Italic on = record patch { italic = Some on }
set_flag patch Underline on = record patch { underline = Some on }
set_flag patch Blink on = record patch { blink = Some on }
set_flag patch Reverse on = record patch { reverse = Some on }
set_flag patch Hidden on = record patch { hidden = Some on }
set_flag patch Strike on = record patch { strike = Some on }

-- the patch and then a change
abbrev pub with_change : Patch → Change → Patch
with_change patch (Switch flag on) = set_flag patch flag on
with_change patch (Foreground colour) = record patch { fg = Some colour }
with_change patch (Background colour) = record patch { bg = Some colour }

-- patches in the places of their classes, of which each does what the rules for its class do
abbrev pub ArePatchesOf : List StyleRule → List Patch → Type 0
ArePatchesOf rules patches =
    (class : Class) (attrs : Attrs) → patched attrs (slice_index_or patches (place class) no_changes) ≡ fold changed attrs (rules_for rules (class_name class))
