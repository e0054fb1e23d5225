-- What a contract sees of a ring: the list of its clips, the newest first.
use Rattle.std.specs.Prelude.{Bool, true, false, ◌&&◌, List, ◌∷◌, ◌++◌, take, drop}
use Rattle.std.specs.Str.{bytes_eq}
use Rattle.edit_buffer.specs.declared.rings.Clip.{Clip}

-- the first 60 of the new clip and the clips before it
abbrev pub with_clip : List Clip → Clip → List Clip
with_clip clips clip = take 60 (clip ∷ clips)

-- the clips with the first one at the end
abbrev pub rotated : List Clip → List Clip
rotated clips = drop 1 clips ++ take 1 clips

abbrev pub same_kind : Bool → Bool → Bool
same_kind true true = true
same_kind false false = true
same_kind _ _ = false

-- two clips are alike
abbrev pub same_clip : Clip → Clip → Bool
same_clip one other = same_kind one.lines other.lines && bytes_eq one.text other.text
