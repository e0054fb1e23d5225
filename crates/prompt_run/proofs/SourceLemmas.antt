-- How the bytes of a source and of a script that was read from it go together.
use Rattle.std.proofs.Common.{◌≡◌, ℕ, ◌≤◌, ◌⊎◌, inl, inr, List, [], ◌++◌, length, take, drop, take_all, Option, Some, None, refl, ap, sym, ◌∙◌, arith, append_assoc, append-nil}
use Rattle.std.proofs.lemmas.List.{take-append-le, drop_all, drop_at}
use Rattle.std.specs.Io.KnownBytes.{Consumes}
use Rattle.prompt_run.specs.Source.{IsRead, Reads, ReadsScript}

-- what came before and what comes now were taken from the front
pub reads_then : (first left rest : Option (List ℕ)) (before now : List ℕ) → Consumes first left before → Reads left rest before now → Consumes first rest now
reads_then None left rest before now taken reads = tt
reads_then (Some xs) None rest before now taken reads = elim taken [ ]
reads_then (Some xs) (Some ys) None before now taken reads = elim reads.2 [ ]
reads_then (Some xs) (Some ys) (Some zs) before now taken reads = rw (taken, reads.1, reads.2) (rw append_assoc refl)

-- what was read to the end, or up to this many bytes, is the front, and the others are left
cut_front : (most : ℕ) (all script rest : List ℕ) → all ≡ script ++ rest → length script ≤ most → (rest ≡ []) ⊎ (most ≤ length script)
    → (script ≡ take most all) × (rest ≡ drop most all)
cut_front most all script rest taken few (inl end) =
    let is : all ≡ script = taken ∙ ap (λ ys. script ++ ys) end ∙ append-nil script in
    (sym (ap (take most) is ∙ take_all most script few), end ∙ sym (ap (drop most) is ∙ drop_all most script few))
cut_front most all script rest taken few (inr past) =
    let long : length script ≡ most = omega arith in
    (sym (ap (take most) taken ∙ take-append-le most script rest past ∙ take_all most script few), sym (ap (drop most) taken ∙ drop_at script rest most long))

pub reads_script : (left rest : Option (List ℕ)) (script : List ℕ) → Consumes left rest script → IsRead rest script → length script ≤ 67108865 → ReadsScript left rest script
reads_script None rest script taken read few = tt
reads_script (Some xs) None script taken read few = taken
reads_script (Some xs) (Some ys) script taken read few = cut_front 67108865 xs script ys taken few read
