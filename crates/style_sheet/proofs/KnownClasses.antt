-- The classes that a sheet keeps have the attributes that its rules give them, whatever is asked.
use Rattle.std.proofs.Common.{◌≡◌, ℕ, Bool, List, ap, sym, subst, ◌∙◌, Option, Some, None, inl, inr, IfSome, String, Global}
use Rattle.std.specs.Prelude.{string_bytes, string_eq, Result, Ok, Err, OnOk, OnErr}
use Rattle.std.specs.Map.{lookup}
use Rattle.std.specs.Str.{bytes_eq}
use Rattle.std.proofs.lemmas.Slice.Eq.{bytes_eq-Decides}
use Rattle.lru.specs.LruCache.{LruCache, lru_cache, promoted, put_entries}
use Rattle.lru.proofs.CallerLemmas.{Contains-lookup, Contains-promoted, Contains-put_entries}
use Rattle.cell_grid.specs.declared.attrs.Attrs.{Attrs}
use Rattle.style_sheet.specs.Cascade.{class_attrs}
use Rattle.style_sheet.specs.Known.{AreKnown}
use Rattle.style_sheet.specs.StyleRule.{StyleRule}

-- whether a key is this name
abbrev pub names : List ℕ → String Global → Bool
names class key = bytes_eq class (string_bytes key)

-- what is found for a name is what the rules give it
pub found_attrs : (rules : List StyleRule) (class : List ℕ) (entries : List (String Global × Attrs)) (found : Option Attrs) → AreKnown rules entries → found ≡ lookup (names class) entries
    → IfSome found (λ attrs. attrs ≡ class_attrs rules class)
found_attrs rules class entries None known is = tt
found_attrs rules class entries (Some attrs) known is =
    let entry = Contains-lookup (names class) entries attrs (sym is) in
    known (entry.0, attrs) entry.1 ∙ ap (λ name. class_attrs rules name) (sym ((bytes_eq-Decides class (string_bytes entry.0)).0 entry.2))

-- an entry that goes first stays what it was
pub promoted_known : (rules : List StyleRule) (class : List ℕ) (entries : List (String Global × Attrs)) → AreKnown rules entries → AreKnown rules (promoted (names class) entries)
promoted_known rules class entries known = λ entry inside. known entry (Contains-promoted (names class) entries entry inside)

-- one more entry, of a name and the attributes that the rules give it
put_known : (rules : List StyleRule) (before : LruCache (String Global) Attrs) (name : String Global) (attrs : Attrs) → AreKnown rules before.entries → attrs ≡ class_attrs rules (string_bytes name)
    → AreKnown rules (put_entries string_eq before name attrs)
put_known rules before name attrs known is = λ entry inside. elim (Contains-put_entries string_eq before name attrs entry inside) [
  | inl old ↦ known entry old
  | inr put ↦ put.0 ∙ is ∙ elim put.1 [
    | inl same ↦ ap (λ key. class_attrs rules (string_bytes key)) (sym same)
    | inr equal ↦ ap (λ bytes. class_attrs rules bytes) ((bytes_eq-Decides (string_bytes name) (string_bytes entry.0)).0 equal.2)
  ]
]

-- the cache after one more entry, which found memory or not
pub remembered : {E : Type 0} (rules : List StyleRule) (before after : LruCache (String Global) Attrs) (name : String Global) (attrs : Attrs) (put : Result (Option Attrs) E)
    → OnOk put (after ≡ lru_cache (put_entries string_eq before name attrs) before.cap) → OnErr put (after ≡ before) → AreKnown rules before.entries → attrs ≡ class_attrs rules (string_bytes name)
    → AreKnown rules after.entries
remembered rules before after name attrs (Ok old) ok err known is = subst (λ cache. AreKnown rules cache.entries) (sym ok) (put_known rules before name attrs known is)
remembered rules before after name attrs (Err refused) ok err known is = subst (λ cache. AreKnown rules cache.entries) (sym err) known
