-- The answers of encode and read-back, in the values that the code has.
--     encode_refused, accepted     encode: refused for a fault of form, or not
--     read_refused, reads          read-back: the same
use mathlib.Core.Path.{◌≡◌, refl, sym, ap, ap₂, ◌∙◌, subst}
use Prim.Native.Nat.{ℕ, ◌+◌, ◌-◌, ◌*◌, ◌/◌, ◌^◌, ◌≤◌}
use native.Mathlib.Omega.{arith}
use mathlib.Core.Bool.{Bool, true, false}
use mathlib.Core.List.{List, [], ◌∷◌, ◌++◌, map}
use lib.ListN.{length, take, drop, length-map, length-take}
use lib.Pow.{pow_mono}
use Rattle.bits.specs.Vectors.{bit, pick, tab}
use Rattle.meaning.specs.Limits.{largest_n, record_bytes, mask_bytes}
use Rattle.meaning.specs.Transform.{polar}
use Rattle.meaning.specs.Sheet.{Rule, free, frozen, rule_at, rules, frees, early}
use Rattle.meaning.specs.Check.{free_bits, keeps}
use Rattle.meaning.specs.Codewords.{payload_of}
use Rattle.meaning.specs.Payload.{encoded}
use Rattle.meaning.specs.Answers.{is_done, is_one, refuses, fault, sheet_refusals, word_refusals, call_refusals, encode_refusals, read_refusals, leaving, writing, encoding, reading_back}
use Rattle.meaning.specs.declared.Answer.{Answer}
use Rattle.meaning.specs.declared.Answer.TheVariants.{Done, Inconsistent}
use Rattle.meaning.specs.Results.{whole_or_refusal}
use Rattle.std.specs.Prelude.{Ok}
use Rattle.meaning.proofs.Refusals.{tried_done, tried_all, none_append}
use Rattle.meaning.proofs.Forms.{Good, good, Worded, worded, bits_back}
use Rattle.meaning.proofs.Polar.{length-polar}
use Rattle.meaning.proofs.Sound.{length-rules}
use Rattle.meaning.proofs.Encode.{length-free}
use Rattle.meaning.proofs.ReadBack.{encode_is, read_is}
use Rattle.codec.specs.Ready.{AreBits, Encodable, Whole, Legible, Extracted}
use Rattle.sheet.proofs.Records.{records_in}
use Rattle.sheet.proofs.Calls.{size_is, count-is, call_same}
use Rattle.codec.proofs.Sending.{bits_are}
use Rattle.codec.proofs.Reading.{length_u, rules_u}

frees_le : (ks : List Rule) → frees ks ≤ length ks
frees_le [] = omega arith
frees_le (free ∷ ks) = omega (arith, frees_le ks)
frees_le (frozen c m ∷ ks) = omega (arith, frees_le ks)

-- K is at most the largest N
frees-low : (n : ℕ) (s : List ℕ) (r : ℕ) → Good n s r → frees (rules n s) ≤ 2 ^ largest_n
frees-low n s r g = omega (arith, frees_le (rules n s), length-rules n s, pow_mono g.small)

-- ---- encode

pub record Accepted (n : ℕ) (s : List ℕ) (r : ℕ) (p out : List ℕ) : Type 0 where
  pub ready : (m : ℕ) → m ≡ length p + r → Encodable n s r p m
  pub fits : length p + r ≤ 2 ^ largest_n
  pub length-is : length s / record_bytes ≡ 2 ^ n
  pub roomy : length s / record_bytes ≤ length out
  pub sent : (x : List ℕ) (m : ℕ) → m ≡ length x → x ≡ map bit (polar n (encoded (rules n s) r (map is_one p))) → leaving (x ++ drop m out) Done ≡ encoding n s r p out

-- of a call by N and K as the code has them
module _ (n : ℕ) (s : List ℕ) (r : ℕ) (p out : List ℕ) (k : ℕ) (ek : k ≡ frees (tab (length s / record_bytes) (rule_at s))) (m : ℕ) (em : m ≡ k - r) where
  abbrev encode_call : Answer
  encode_call = fault (call_refusals n s r m 1 (length s / record_bytes) p (length out))

  encode_fault : encode_call ≡ fault (encode_refusals n s r p (length out))
  unfolding encode_refusals
  encode_fault = call_same n s r m 1 (length s / record_bytes) p (length out) (frees (rules n s) - r) (2 ^ n) (λ h. (em ∙ ap (λ (j : ℕ). j - r) (ek ∙ count-is n s r h), size_is n s r h))

  pub encode_refused : (a : Answer) → a ≡ encode_call → is_done a ≡ false → leaving out a ≡ encoding n s r p out
  unfolding encoding encode_refusals
  encode_refused a eb q =
      let ea = eb ∙ encode_fault in ap (leaving out) ea ∙ sym (tried_all (leaving out) (encode_refusals n s r p (length out)) _ (ap is_done (sym ea) ∙ q))

  no-fault : Done ≡ fault (encode_refusals n s r p (length out)) → refuses (encode_refusals n s r p (length out)) ≡ false
  unfolding encode_refusals sheet_refusals word_refusals
  no-fault ea = tried_done (encode_refusals n s r p (length out)) refl (ap is_done (sym ea))

  pub accepted : Done ≡ encode_call → Accepted n s r p out
  unfolding encode_refusals
  accepted eb =
      let ea = eb ∙ encode_fault in
      let none = none_append (sheet_refusals n s r) _ (no-fault ea) in
      let g = good n s r none.0 in
      let w = worded _ 1 _ p (length out) none.1 in
      let size : length s / record_bytes ≡ 2 ^ n = records_in (length s) (2 ^ n) g.long in
      let sum : length p + r ≡ frees (rules n s) = omega (arith, w.long, g.roomy) in
      record {
        ready = λ m e. record { small = g.small; long = g.long; check = g.check; count = e ∙ sum; bits = bits_back p w.symbols; sum = e };
        fits = omega (arith, sum, frees-low n s r g);
        length-is = size;
        roomy = omega (arith, size, w.roomy);
        sent = λ x m em ex.
            ap (λ (j : ℕ). leaving (x ++ drop j out) Done) em ∙ ap (λ (l : List ℕ). leaving (l ++ drop (length l) out) Done) ex
            ∙ sym (encode_is n s r p out (no-fault ea));
      }

-- ---- read-back

pub record Read (n : ℕ) (s : List ℕ) (r k : ℕ) (w out : List ℕ) : Type 0 where
  pub enough : r ≤ k
  pub fits : k ≤ 2 ^ largest_n
  pub low : length s / record_bytes ≤ 2 ^ largest_n
  pub long : length s / record_bytes ≡ 2 ^ n
  pub roomy : k - r ≤ length out
  pub legible : (j : ℕ) → j ≡ k → Legible n s r w j
  pub told : (out' : List ℕ) (b : Bool) → Extracted n s r w (k - r) out out' b → leaving out' (whole_or_refusal (Ok b)) ≡ reading_back n s r w out

-- of a call by N and K as the code has them
module _ (n : ℕ) (s : List ℕ) (r : ℕ) (w out : List ℕ) (k : ℕ) (ek : k ≡ frees (tab (length s / record_bytes) (rule_at s))) (m' : ℕ) (em : m' ≡ k - r) where
  abbrev read_call : Answer
  read_call = fault (call_refusals n s r (length s / record_bytes) 1 m' w (length out))

  read_fault : read_call ≡ fault (read_refusals n s r w (length out))
  unfolding read_refusals
  read_fault = call_same n s r (length s / record_bytes) 1 m' w (length out) (2 ^ n) (frees (rules n s) - r) (λ h. (size_is n s r h, em ∙ ap (λ (j : ℕ). j - r) (ek ∙ count-is n s r h)))

  pub read_refused : (a : Answer) → a ≡ read_call → is_done a ≡ false → leaving out a ≡ reading_back n s r w out
  unfolding reading_back read_refusals
  read_refused a eb q =
      let ea = eb ∙ read_fault in ap (leaving out) ea ∙ sym (tried_all (leaving out) (read_refusals n s r w (length out)) _ (ap is_done (sym ea) ∙ q))

  module _ (eb : Done ≡ read_call) where
    none : refuses (read_refusals n s r w (length out)) ≡ false
    unfolding read_refusals sheet_refusals word_refusals
    none = tried_done (read_refusals n s r w (length out)) refl (ap is_done (sym (eb ∙ read_fault)))

    sheet : Good n s r
    unfolding read_refusals
    sheet = good n s r (none_append (sheet_refusals n s r) _ none).0

    word : Worded (2 ^ n) 1 (frees (rules n s) - r) w (length out)
    unfolding read_refusals
    word = worded (2 ^ n) 1 (frees (rules n s) - r) w (length out) (none_append (sheet_refusals n s r) _ none).1

    size : length s / record_bytes ≡ 2 ^ n
    size = records_in (length s) (2 ^ n) sheet.long

    count : k ≡ frees (rules n s)
    unfolding rules
    count = ek ∙ ap (λ (m : ℕ). frees (tab m (rule_at s))) size

    word_long : length w ≡ 2 ^ n
    word_long = word.long

    -- the vector behind the word
    abbrev us : List Bool
    us = polar n (map is_one w)

    length-us : length us ≡ 2 ^ n
    length-us = length-polar n (map is_one w) (length-map w is_one ∙ word_long)

    answer : reading_back n s r w out ≡ pick (keeps (rules n s) r us) (writing (map bit (payload_of n (rules n s) r (map is_one w))) out Done) (leaving out (Inconsistent 0 0))
    answer = read_is n s r w out none

    whole : (j : ℕ) → j ≡ k → (u : List ℕ) → u ≡ map bit us → Whole s r u j
    unfolding largest_n mask_bytes
    whole j ej u e =
        let lu : length u ≡ 2 ^ n = length_u n s w u word_long e in
        let ru : tab (length u) (rule_at s) ≡ rules n s = rules_u n s w u word_long e in
        record {
          long = sheet.long ∙ ap (λ (x : ℕ). x * record_bytes) (sym lu);
          within = omega (arith, lu, pow_mono sheet.small);
          ordered = ap (early 0) ru ∙ sheet.ordered;
          check = sheet.check;
          bits = subst (λ (l : List ℕ). AreBits l) (sym e) (bits_are us);
          count = ej ∙ count ∙ ap frees (sym ru);
        }

    -- the payload has K - r bits
    length_payload : length (map bit (payload_of n (rules n s) r (map is_one w))) ≡ k - r
    unfolding payload_of
    length_payload =
        let lf = length-free (rules n s) us (length-us ∙ sym (length-rules n s)) in
        length-map (take (frees (rules n s) - r) (free_bits (rules n s) us)) bit ∙ simp length-take (omega (arith, count))

    replied : (out' : List ℕ) (t : Bool) → Extracted n s r w (k - r) out out' t → leaving out' (whole_or_refusal (Ok t)) ≡ reading_back n s r w out
    unfolding payload_of
    replied out' true x =
        let lp = length_payload in
        let ep : map bit (take (k - r) (free_bits (rules n s) us)) ≡ map bit (payload_of n (rules n s) r (map is_one w)) = ap (λ (m : ℕ). map bit (take (m - r) (free_bits (rules n s) us))) count in
        ap (λ (l : List ℕ). leaving l Done) (x.leaves ∙ ap₂ {C = List ℕ} (λ (a : List ℕ) (m : ℕ). a ++ drop m out) ep (sym lp)) ∙ sym (answer ∙ rw (sym x.tells))
    replied out' false x = ap (λ (l : List ℕ). leaving l (Inconsistent 0 0)) x.leaves ∙ sym (answer ∙ rw (sym x.tells))

    pub reads : Read n s r k w out
    reads =
        record {
          enough = omega (arith, count, sheet.roomy);
          fits = omega (arith, count, frees-low n s r sheet);
          low = omega (arith, size, pow_mono sheet.small);
          long = size;
          roomy = omega (arith, count, word.roomy);
          legible = λ j ej. record { bits = bits_back w word.symbols; long = word_long; behind = whole j ej };
          told = replied;
        }
