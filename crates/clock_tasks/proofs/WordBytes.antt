-- Words one after another as bytes, and read again; and what each turn of a loop over them does.
use Rattle.std.proofs.Common.{◌≡◌, ℕ, suc, ◌+◌, ◌*◌, ◌<◌, ◌≤◌, List, [], ◌∷◌, ◌++◌, map, length, get_or, take, drop, sym, refl, ◌∙◌, append_assoc, append-nil, arith, length-append, length-drop, drop_of_length-le, length-take-le, take-suc, drop-drop}
use mathlib.Core.List.{flatten, map-append}
use lib.Seq.{take-length}
use Rattle.image.specs.Bytes.{bytes_of}
use Rattle.server.specs.Records.{with_word}
use Rattle.server.proofs.Stored.{next_word}
use Rattle.clock_tasks.specs.Words.{word_bytes, words_in}

-- READ

-- once all are read
pub read_all : (bytes words out : List ℕ) (i : ℕ) → i ≡ length words → out ≡ words_in i bytes ++ drop i words → out ≡ words_in (length words) bytes
read_all bytes words out i all e =
    e ∙ rw (all, drop_of_length-le words {i = length words} (omega arith)) (append-nil (words_in (length words) bytes))

-- WRITTEN

flatten_more : (xss : List (List ℕ)) (xs : List ℕ) → flatten (xss ++ (xs ∷ [])) ≡ flatten xss ++ xs
unfolding flatten
flatten_more [] xs = append-nil xs
flatten_more (ys ∷ xss) xs = rw (flatten_more xss xs) (sym (append_assoc ys (flatten xss) xs))

bytes_more : (ws : List ℕ) (x : ℕ) → word_bytes (ws ++ (x ∷ [])) ≡ word_bytes ws ++ bytes_of 4 x
bytes_more ws x = rw map-append (flatten_more (map (bytes_of 4) ws) (bytes_of 4 x))

pub length_bytes : (ws : List ℕ) → length (word_bytes ws) ≡ 4 * length ws
unfolding flatten
length_bytes [] = refl
length_bytes (x ∷ ws) = rw (length-append, length_bytes ws) (omega arith)

-- one more word is put behind those that are written
pub put_more : (words bytes out : List ℕ) (i : ℕ) → i < length words → length bytes ≡ 4 * length words
    → out ≡ word_bytes (take i words) ++ drop (4 * i) bytes
    → with_word out (4 * i) (get_or words i 0) ≡ word_bytes (take (suc i) words) ++ drop (4 * suc i) bytes
put_more words bytes out i h size e =
    let x = get_or words i 0 in
    let done = word_bytes (take i words) in
    let front : length done ≡ 4 * i = rw (length_bytes, length-take-le i words (omega arith)) in
    let next : 4 * i + 4 ≡ 4 * suc i = omega arith in
    next_word done (drop (4 * i) bytes) out (4 * i) x front (rw length-drop (omega arith)) e
    ∙ rw (drop-drop, next, take-suc words i 0 h, bytes_more)

pub put_length : (words bytes out : List ℕ) (i : ℕ) → i ≤ length words → length bytes ≡ 4 * length words
    → out ≡ word_bytes (take i words) ++ drop (4 * i) bytes → length out ≡ length bytes
put_length words bytes out i h size e =
    rw (e, length-append, length_bytes, length-take-le i words h, length-drop) (omega arith)

-- once all are written
pub put_all : (words bytes out : List ℕ) (i : ℕ) → i ≡ length words → length bytes ≡ 4 * length words
    → out ≡ word_bytes (take i words) ++ drop (4 * i) bytes → out ≡ word_bytes words
put_all words bytes out i all size e =
    e ∙ rw (all, take-length, drop_of_length-le bytes {i = 4 * length words} (omega arith)) (append-nil (word_bytes words))
