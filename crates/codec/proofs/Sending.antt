-- From a payload to its codeword, in the values that the code has.
--     checked           the payload with its check bits behind it
--     place_ready       the vector that the rules give
--     sent              its transform
use mathlib.Core.Path.{◌≡◌, sym, ap, ap₂, ◌∙◌, subst}
use Prim.Native.Nat.{ℕ, ◌*◌, ◌^◌, ◌≤◌}
use native.Mathlib.Omega.{arith}
use mathlib.Core.Bool.{Bool}
use mathlib.Core.List.{List, [], ◌++◌, map, map-append}
use lib.ListN.{length, length-map}
use lib.Pow.{pow_mono}
use Rattle.bits.specs.Vectors.{bit, tab}
use Rattle.meaning.specs.Limits.{largest_n, mask_bytes, record_bytes, leads}
use Rattle.meaning.specs.Transform.{polar}
use Rattle.meaning.specs.Sheet.{rule_at, rules, frees}
use Rattle.meaning.specs.Check.{poly}
use Rattle.meaning.specs.Payload.{remainder, place, encoded}
use Rattle.meaning.specs.Answers.{is_one}
use Rattle.meaning.proofs.Sound.{length-rules}
use Rattle.meaning.proofs.Encode.{length-place}
use Rattle.meaning.proofs.ReadBack.{ones_back}
use Rattle.polar.specs.Bytes.{transformed}
use Rattle.polar.proofs.Transforming.{transformed-is, polar-bytes}
use Rattle.division.specs.Division.{appending}
use Rattle.division.proofs.Checking.{fitting-is, appending-is}
use Rattle.codec.specs.Ready.{AreBits, Placeable, Encodable}

-- ---- the vector that the rules give, and its transform

pub bits_are : (b : List Bool) → AreBits (map bit b)
bits_are b = ap (map bit) (ones_back b)

module _ (n : ℕ) (s : List ℕ) (r : ℕ) (p : List ℕ) (k : ℕ) (ok : Encodable n s r p k) where
  -- N positions fit the mask
  pub within : (m : ℕ) → m ≡ 2 ^ n → m ≤ 8 * mask_bytes
  unfolding largest_n mask_bytes
  within m e = omega (arith, e, pow_mono ok.small)

  pub checked : (f₀ f : List ℕ) → length f₀ ≡ k → f ≡ appending r p f₀ → f ≡ map bit (map is_one p ++ remainder (poly r) (leads r ++ map is_one p))
  checked f₀ f l e =
      let c : List Bool = remainder (poly r) (leads r ++ map is_one p) in
      e ∙ appending-is r p f₀ (fitting-is (length p) r (length f₀) ok.check (l ∙ ok.sum)) ∙ ap (λ (q : List ℕ). q ++ map bit c) (sym ok.bits) ∙ sym (map-append bit (map is_one p) c)

  module _ (x f : List ℕ) (lx : length x ≡ 2 ^ n) (lf : length f ≡ k) (e : f ≡ map bit (map is_one p ++ remainder (poly r) (leads r ++ map is_one p))) where
    pub place_ready : Placeable s (length x) f
    unfolding rules
    place_ready = record {
      long = ok.long ∙ ap (λ (m : ℕ). m * record_bytes) (sym lx);
      within = within (length x) lx;
      bits = subst (λ (l : List ℕ). AreBits l) (sym e) (bits_are (map is_one p ++ remainder (poly r) (leads r ++ map is_one p)));
      count = lf ∙ ok.count ∙ ap (λ (m : ℕ). frees (tab m (rule_at s))) (sym lx);
    }

    pub sent : (y z : List ℕ) → y ≡ map bit (place (tab (length x) (rule_at s)) [] (map is_one f)) → z ≡ transformed n y → z ≡ map bit (polar n (encoded (rules n s) r (map is_one p)))
    unfolding encoded rules
    sent y z ey ez =
        let b : List Bool = map is_one p ++ remainder (poly r) (leads r ++ map is_one p) in
        let u : List Bool = place (rules n s) [] b in
        let back : map is_one f ≡ b = ap (map is_one) e ∙ ones_back b in
        let eu : y ≡ map bit u = ey ∙ ap₂ (λ (m : ℕ) (v : List Bool). map bit (place (tab m (rule_at s)) [] v)) lx back in
        let lu : length u ≡ 2 ^ n = length-place (rules n s) [] b ∙ length-rules n s in
        ez ∙ ap (transformed n) eu ∙ transformed-is n (map bit u) (length-map u bit ∙ lu) ∙ polar-bytes n u lu
