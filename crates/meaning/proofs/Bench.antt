-- 01's starred bench examples hold, all under one statement: `table`. E1 to E12, and the row with r = 6.
-- They are computed; open positions go by halves, which the law `open-list` allows.
use mathlib.Core.Path.{◌≡◌, refl, ap, ◌∙◌}
use Prim.Native.Nat.{ℕ, zero, suc, ◌+◌, ◌^◌}
use mathlib.Core.Bool.{Bool, true, ◌&&◌}
use mathlib.Core.List.{List, [], ◌∷◌, ◌++◌, map}
use lib.ListN.{length, take, drop, length-map}
use lib.Dec.{eqb, ltb}
use borrow.Author.Tests.{eqb-true}
use Rattle.bits.specs.Vectors.{all, ones, all_bits}
use Rattle.bits.proofs.Tests.{and_l, and_r, and_i}
use Rattle.meaning.specs.Limits.{largest_n, mask_bytes, record_bytes, largest_ceiling, leads}
use Rattle.meaning.specs.Transform.{polar}
use Rattle.meaning.specs.Sheet.{names, mask, rule_at, rules, fine, bad_record}
use Rattle.meaning.specs.Check.{poly, keeps}
use Rattle.meaning.specs.Codewords.{erased, codewords, candidates, payload_of, carrying}
use Rattle.meaning.specs.Open.{open_free, closed_frozen, open_all, opens, unknowns, equations}
use Rattle.meaning.specs.Strips.{settled, strips, dimension}
use Rattle.meaning.specs.Answers.{Reply, ◌⇒◌, first_of, bad_shape, bad_check, sheet_refusals, word_refusals, form_refusals, decode_refusals, encode_refusals, leaving, verdict, encoding, decoding}
use Rattle.meaning.specs.Bench.{Row, encodes, decodes, digits, held, replies, rows, holds}
use Rattle.meaning.specs.declared.Answer.TheVariants.{TooMany}
use Rattle.meaning.proofs.Open.{open_list}

-- decoding, with the list of open positions given
decoding_by : List Bool → ℕ → List ℕ → ℕ → ℕ → List ℕ → List ℕ → Reply
decoding_by o n s r c w out =
    let ks = rules n s in
    let g = ones (open_free ks o) in
    first_of (leaving out) (form_refusals n s r c w (length out) ++ ((ltb c g ⇒ TooMany g) ∷ [])) (verdict n g (ones (closed_frozen ks o) + r) (candidates n ks r w) out)

by_halves : (n : ℕ) (s : List ℕ) (r c : ℕ) (w out : List ℕ) → length w ≡ 2 ^ n → decoding n s r c w out ≡ decoding_by (opens n (map erased w)) n s r c w out
unfolding decoding_by decoding decode_refusals unknowns equations open_all
by_halves n s r c w out l = ap (λ (o : List Bool). decoding_by o n s r c w out) (open_list n (map erased w) (length-map w erased ∙ l))

computes : Row → Bool
computes (encodes p x) = holds (encodes p x)
computes (decodes s r w nums new) =
    let d = digits 8 w [] in
    eqb (length d) 8 && replies (decoding_by (opens 3 (map erased d)) 3 s r 63 d (held 24)) nums new 24

enough : (t : Row) → computes t ≡ true → holds t ≡ true
unfolding computes holds
enough (encodes p x) h = h
enough (decodes s r w nums new) h =
    let d : List ℕ = digits 8 w [] in
    ap (λ (a : Reply). replies a nums new 24) (by_halves 3 s r 63 d (held 24) (eqb-true (length d) 8 (and_l (eqb (length d) 8) _ h))) ∙ and_r (eqb (length d) 8) _ h

all-enough : (l : List Row) → all computes l ≡ true → all holds l ≡ true
all-enough [] h = refl
all-enough (t ∷ l) h = and_i _ _ (enough t (and_l (computes t) _ h)) (all-enough l (and_r (computes t) _ h))

all_split : {A : Type 0} (p : A → Bool) (k : ℕ) (l : List A) → all p (take k l) ≡ true → all p (drop k l) ≡ true → all p l ≡ true
all_split p zero l h t = t
all_split p (suc k) [] h t = refl
all_split p (suc k) (a ∷ l) h t = and_i _ _ (and_l (p a) _ h) (all_split p k l (and_r (p a) _ h) t)

-- in two halves, which takes the less memory
first_rows : all computes (take 7 rows) ≡ true
unfolding computes holds rows decoding_by encoding encode_refusals form_refusals sheet_refusals word_refusals bad_shape bad_check bad_record fine verdict strips settled dimension carrying payload_of candidates codewords keeps poly all_bits polar opens rules rule_at mask names largest_n mask_bytes record_bytes largest_ceiling leads
first_rows = refl

last-rows : all computes (drop 7 rows) ≡ true
unfolding computes holds rows decoding_by encoding encode_refusals form_refusals sheet_refusals word_refusals bad_shape bad_check bad_record fine verdict strips settled dimension carrying payload_of candidates codewords keeps poly all_bits polar opens rules rule_at mask names largest_n mask_bytes record_bytes largest_ceiling leads
last-rows = refl

pub table : all holds rows ≡ true
table = all-enough rows (all_split computes 7 rows first_rows last-rows)
