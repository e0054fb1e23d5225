-- A file that grows by the bytes of an entry holds one entry more.
use Rattle.std.proofs.Common.{◌≡◌, ℕ, ◌+◌, ◌%◌, ◌^◌, ◌<◌, ◌≤◌, Bool, true, false, List, [], ◌∷◌, ◌++◌, length, get_or, map, filter, decimal, encode_utf8, encode_utf8_all, refl, sym, ap, ◌∙◌, arith, ⊎_elim}
use Rattle.std.specs.List.{slice_split, onto_first, join_with_byte, All}
use Rattle.std.proofs.lemmas.Bool.{and_from, and_parts, cases_Bool, eqb-true, eqb-false, ne_eqb, cond-true, cond-false, le-leb, lt-leb}
use Rattle.std.proofs.lemmas.Fmt.{decimal_by_steps}
use Rattle.std.proofs.lemmas.List.{append-nil, get_or_default, map-append}
use Rattle.std.proofs.lemmas.List.Elements.{All-cons, All-head, All-map, All-nil, All-push, All-tail, filter-append}
use Rattle.std.proofs.lemmas.List.Splits.{slice_split-cons_yes, slice_split-cons_no, slice_split_at, join_with_byte-slice_split}
use Rattle.std.proofs.lemmas.Str.{inside_one}
use Rattle.bstr.specs.Utf8.{lossy_chars}
use Rattle.bstr.proofs.lemmas.EncodeLemmas.{lossy_chars-encode}
use Rattle.bstr.proofs.lemmas.LossyLemmas.{lossy_chars-front}
use Rattle.text_doc.specs.declared.documents.TheConstants.{MAX_LENGTH}
use Rattle.text_doc.specs.Lines.{lines_of}
use Rattle.line_history.specs.History.{entries_of, entry_bytes, has_lines, is_short, line_text, run_text}
use Rattle.line_history.specs.Writing.{char_bytes_if}
use Rattle.line_history.proofs.Cuts.{HasFirst-split, split-append}
use Rattle.line_history.proofs.EntryBytes.{comment, entry_bytes_is, is_line_feed, written}
use Rattle.line_history.proofs.ReadLines.{parts_entries, texts_of}
use lib.Utf8.{encode, scalar, scalars}

-- elements at which a list is not cut stay with what follows them
slice_split-front : (p : ℕ → Bool) (xs ys first : List ℕ) (rest : List (List ℕ)) → All (λ x. p x ≡ false) xs
    → slice_split p ys ≡ first ∷ rest → slice_split p (xs ++ ys) ≡ (xs ++ first) ∷ rest
slice_split-front p [] ys first rest whole is = is
slice_split-front p (x ∷ xs) ys first rest whole is =
    slice_split-cons_no p x (xs ++ ys) (All-head (λ y. p y ≡ false) x xs whole)
    ∙ ap (onto_first x) (slice_split-front p xs ys first rest (All-tail (λ y. p y ≡ false) x xs whole) is)

-- a character other than a line feed has no line feed among its bytes
no_line_feed : (c : ℕ) → is_line_feed c ≡ false → All (λ b. is_line_feed b ≡ false) (encode_utf8 c)
no_line_feed c other = λ k d below.
    let bytes = encode_utf8 c in
    ne_eqb (get_or bytes k d) 10 (λ (at : get_or bytes k d ≡ 10).
    let zero_is : get_or bytes k d ≡ get_or bytes k 0 = get_or_default bytes k d 0 below in
    let same : c ≡ get_or bytes k 0 = inside_one c [] bytes k (sym (append-nil bytes)) below (omega arith) in
    eqb-false c 10 other (same ∙ sym zero_is ∙ at))

-- a line of an entry with its `+`
abbrev plus_line : List ℕ → List ℕ
plus_line line = 43 ∷ encode_utf8_all line

-- what is written of an entry has the lines of the entry, each behind a `+`, and then an empty one
lines_of-written : (chars : List ℕ) → lines_of (43 ∷ written chars) ≡ map plus_line (lines_of chars) ++ [] ∷ []
unfolding encode
lines_of-written [] = refl
lines_of-written (c ∷ cs) =
    let next = λ (b : Bool). lines_of (43 ∷ (char_bytes_if b c ++ written cs)) in
    ⊎_elim
    (λ yes.
    let is : c ≡ 10 = eqb-true c 10 yes in
    ap next yes
    ∙ ap (λ n. lines_of (43 ∷ ((encode_utf8 n ++ 43 ∷ []) ++ written cs))) is
    ∙ ap (λ lines. (43 ∷ []) ∷ lines) (lines_of-written cs)
    ∙ sym (ap (λ lines. map plus_line lines ++ [] ∷ []) (slice_split-cons_yes is_line_feed c cs yes)))
    (λ no.
    let of_chars = HasFirst-split is_line_feed cs in
    let of_bytes = HasFirst-split is_line_feed (written cs) in
    let same : (43 ∷ of_bytes.first) ∷ of_bytes.rest ≡ plus_line of_chars.first ∷ (map plus_line of_chars.rest ++ [] ∷ []) =
    sym (ap (onto_first 43) of_bytes.is) ∙ lines_of-written cs ∙ ap (λ lines. map plus_line lines ++ [] ∷ []) of_chars.is in
    let first : of_bytes.first ≡ encode_utf8_all of_chars.first = cc in
    let rest : of_bytes.rest ≡ map plus_line of_chars.rest ++ [] ∷ [] = cc in
    ap next no
    ∙ ap (onto_first 43) (slice_split-front is_line_feed (encode_utf8 c) (written cs) of_bytes.first of_bytes.rest (no_line_feed c no) of_bytes.is)
    ∙ ap (λ t. (43 ∷ (encode_utf8 c ++ t)) ∷ of_bytes.rest) first
    ∙ ap (λ t. (43 ∷ (encode_utf8 c ++ encode_utf8_all of_chars.first)) ∷ t) rest
    ∙ sym (ap (λ lines. map plus_line lines ++ [] ∷ []) (slice_split-cons_no is_line_feed c cs no ∙ ap (onto_first c) of_chars.is)))
    (cases_Bool (is_line_feed c))

-- the comment is one line
comment_line : (moment : ℕ) → moment < 2 ^ 64 → All (λ b. is_line_feed b ≡ false) (comment moment)
comment_line moment fits =
    let Plain = λ (b : ℕ). is_line_feed b ≡ false in
    let digit : (n : ℕ) → Plain (48 + n) = λ n. ne_eqb (48 + n) 10 (λ e. absurd (omega arith)) in
    let digits : All Plain (decimal moment) = decimal_by_steps (λ n ds. All Plain ds)
    (λ n small. All-cons Plain (48 + n) [] (digit n) (All-nil Plain))
    (λ n ds large so_far. All-push Plain ds (48 + n % 10) so_far (digit (n % 10)))
    moment fits in
    All-cons Plain 35 (32 ∷ decimal moment) refl (All-cons Plain 32 (decimal moment) refl digits)

-- the lines of an entry that were written are read as they were
texts_read : (chars : List ℕ) → scalars chars ≡ true → map line_text (map plus_line (lines_of chars)) ≡ lines_of chars
texts_read [] all = ap (λ line. line ∷ []) (lossy_chars-encode [] refl)
texts_read (c ∷ cs) all =
    let both = and_parts (scalar c) (scalars cs) all in
    let read = λ (lines : List (List ℕ)). map line_text (map plus_line lines) in
    ⊎_elim
    (λ yes.
    let cut = slice_split-cons_yes is_line_feed c cs yes in
    ap read cut ∙ ap (λ line. line ∷ read (lines_of cs)) (lossy_chars-encode [] refl) ∙ ap (λ lines. [] ∷ lines) (texts_read cs both.1) ∙ sym cut)
    (λ no.
    let has = HasFirst-split is_line_feed cs in
    let cut = slice_split-cons_no is_line_feed c cs no ∙ ap (onto_first c) has.is in
    let later : lossy_chars (encode_utf8_all has.first) ∷ read has.rest ≡ has.first ∷ has.rest =
    sym (ap read has.is) ∙ texts_read cs both.1 ∙ has.is in
    let first : lossy_chars (encode_utf8_all has.first) ≡ has.first = cc in
    let rest : read has.rest ≡ has.rest = cc in
    let bytes = encode_utf8_all has.first in
    let one : lossy_chars (encode_utf8 c ++ bytes) ≡ c ∷ lossy_chars bytes =
    ap (λ t. lossy_chars (t ++ bytes)) (sym (append-nil (encode_utf8 c))) ∙ lossy_chars-front (c ∷ []) bytes (and_from (scalar c) true both.0 refl) in
    ap read cut ∙ ap (λ t. t ∷ read has.rest) (one ∙ ap (λ t. c ∷ t) first) ∙ ap (λ t. (c ∷ has.first) ∷ t) rest ∙ sym cut)
    (cases_Bool (is_line_feed c))

-- the runs of an entry that was written are that entry
entry_read : (entry : List ℕ) → scalars entry ≡ true
    → texts_of (slice_split parts_entries (lines_of (43 ∷ written entry))) ≡ filter is_short (entry ∷ [])
entry_read entry all =
    let lines = lines_of entry in
    let run = map plus_line lines in
    let has = HasFirst-split is_line_feed entry in
    let within : All (λ line. parts_entries line ≡ false) run = All-map (λ line. parts_entries line ≡ false) plus_line lines (λ k d below. refl) in
    let parts : slice_split parts_entries (lines_of (43 ∷ written entry)) ≡ run ∷ [] ∷ [] =
    ap (slice_split parts_entries) (lines_of-written entry) ∙ slice_split_at parts_entries run [] [] within refl in
    let kept_run : texts_of (run ∷ [] ∷ []) ≡ filter is_short (run_text run ∷ []) =
    let texts = λ (ls : List (List ℕ)). texts_of (map plus_line ls ∷ [] ∷ []) in
    let alone = λ (ls : List (List ℕ)). filter is_short (run_text (map plus_line ls) ∷ []) in
    ap texts has.is ∙ sym (ap alone has.is) in
    ap texts_of parts ∙ kept_run
    ∙ ap (λ text. filter is_short (text ∷ [])) (ap (join_with_byte 10) (texts_read entry all) ∙ join_with_byte-slice_split 10 entry)

-- runs on both sides of a line that is none of an entry
texts_of-parted : (before : List (List ℕ)) (line : List ℕ) (after : List (List ℕ)) → parts_entries line ≡ true
    → texts_of (slice_split parts_entries (before ++ line ∷ after))
    ≡ texts_of (slice_split parts_entries before) ++ texts_of (slice_split parts_entries after)
texts_of-parted before line after parts =
    let left = slice_split parts_entries before in
    let right = slice_split parts_entries after in
    ap texts_of (split-append parts_entries before line after parts)
    ∙ ap (λ runs. filter is_short (map run_text runs)) (filter-append has_lines left right)
    ∙ ap (filter is_short) (map-append run_text (filter has_lines left) (filter has_lines right))
    ∙ filter-append is_short (map run_text (filter has_lines left)) (map run_text (filter has_lines right))

-- a file and the bytes of an entry behind it
pub grown_by_entry : (file entry : List ℕ) (moment : ℕ) → moment < 2 ^ 64 → scalars entry ≡ true
    → entries_of (file ++ entry_bytes entry moment) ≡ entries_of file ++ filter is_short (entry ∷ [])
unfolding entries_of
grown_by_entry file entry moment fits all =
    let body = 43 ∷ written entry in
    let texts = λ (lines : List (List ℕ)). texts_of (slice_split parts_entries lines) in
    ap (λ bytes. texts (lines_of (file ++ bytes))) (entry_bytes_is entry moment)
    ∙ ap texts (split-append is_line_feed file 10 (comment moment ++ 10 ∷ body) refl)
    ∙ ap (λ lines. texts (lines_of file ++ lines)) (slice_split_at is_line_feed (comment moment) 10 body (comment_line moment fits) refl)
    ∙ texts_of-parted (lines_of file) (comment moment) (lines_of body) refl
    ∙ ap (λ ts. texts (lines_of file) ++ ts) (entry_read entry all)

pub grown_by_short : (file entry : List ℕ) (moment : ℕ) → moment < 2 ^ 64 → scalars entry ≡ true → length entry ≤ MAX_LENGTH
    → entries_of (file ++ entry_bytes entry moment) ≡ entries_of file ++ entry ∷ []
grown_by_short file entry moment fits all short =
    grown_by_entry file entry moment fits all
    ∙ ap (λ ts. entries_of file ++ ts) (cond-true (is_short entry) (entry ∷ []) [] (le-leb (length entry) MAX_LENGTH short))

pub grown_by_long : (file entry : List ℕ) (moment : ℕ) → moment < 2 ^ 64 → scalars entry ≡ true → MAX_LENGTH < length entry
    → entries_of (file ++ entry_bytes entry moment) ≡ entries_of file
grown_by_long file entry moment fits all long =
    grown_by_entry file entry moment fits all
    ∙ ap (λ ts. entries_of file ++ ts) (cond-false (is_short entry) (entry ∷ []) [] (lt-leb (length entry) MAX_LENGTH long))
    ∙ append-nil (entries_of file)

pub entries_of-nil : entries_of [] ≡ []
unfolding entries_of
entries_of-nil = refl

-- a comment parts what stands before it from what stands behind it
pub parted_by_comment : (file more : List ℕ) → entries_of (file ++ 10 ∷ 35 ∷ more) ≡ entries_of file ++ entries_of (35 ∷ more)
unfolding entries_of
parted_by_comment file more =
    let has = HasFirst-split is_line_feed more in
    let texts = λ (lines : List (List ℕ)). texts_of (slice_split parts_entries lines) in
    let cut : lines_of (35 ∷ more) ≡ (35 ∷ has.first) ∷ has.rest = ap (onto_first 35) has.is in
    ap texts (split-append is_line_feed file 10 (35 ∷ more) refl)
    ∙ ap (λ lines. texts (lines_of file ++ lines)) cut
    ∙ texts_of-parted (lines_of file) (35 ∷ has.first) has.rest refl
    ∙ sym (ap (λ ts. texts (lines_of file) ++ ts) (ap texts cut ∙ texts_of-parted [] (35 ∷ has.first) has.rest refl))

-- a line feed at the end of a file ends its last line and adds none
pub ended_by_line_feed : (file : List ℕ) → entries_of (file ++ 10 ∷ []) ≡ entries_of file
unfolding entries_of
ended_by_line_feed file =
    let texts = λ (lines : List (List ℕ)). texts_of (slice_split parts_entries lines) in
    ap texts (split-append is_line_feed file 10 [] refl) ∙ texts_of-parted (lines_of file) [] [] refl ∙ append-nil (texts (lines_of file))
