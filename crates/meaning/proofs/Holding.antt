-- Sheets that hold nothing, and those that hold something.
--     nothing-checked, nothing-encoded, nothing_read, nothing-decoded     a sheet of right length and records whose K is 0 gets 19, whatever else is handed in
--     payload_held         a sheet that is not refused has a payload of one bit or more
--     lost_several         and, where every symbol is lost, two codewords or more that agree
--     lost-not_unique      so that no such word is called unique
use mathlib.Core.Path.{◌≡◌, refl, sym, ap, ◌∙◌}
use Prim.Native.Nat.{ℕ, zero, suc, ◌-◌, ◌^◌, ◌≤◌, ◌<◌}
use native.Mathlib.Omega.{arith}
use mathlib.Core.Bool.{Bool, true, false, false≢true}
use mathlib.Core.List.Memᴰ
use mathlib.Core.List.{List, [], ◌∷◌, Memᴰ}
use lib.ListN.{length, take, get_or, replicate, length-replicate}
use lib.Dec.{ltb}
use Rattle.bits.specs.Vectors.{all}
use Rattle.meaning.specs.Transform.{polar}
use Rattle.meaning.specs.Sheet.{Rule, rules, bad_record, frees}
use Rattle.meaning.specs.Check.{free_bits, keeps}
use Rattle.meaning.specs.Codewords.{erased, agrees, candidates}
use Rattle.meaning.specs.Payload.{encoded}
use Rattle.meaning.specs.Open.{unknowns, equations}
use Rattle.meaning.specs.Answers.{numbers_of, refuses, bad_shape, sheet_refusals, encode_refusals, read_refusals, form_refusals, decode_refusals, leaving, checking, encoding, reading_back, decoding}
use Rattle.meaning.specs.declared.Answer.TheVariants.{HoldsNothing}
use Rattle.meaning.proofs.Polar.{length-polar, polar-polar}
use Rattle.meaning.proofs.Sound.{length-rules}
use Rattle.meaning.proofs.Candidates.{candidate_iff}
use Rattle.meaning.proofs.Encode.{encoded-keeps}
use Rattle.meaning.proofs.Forms.{Good, good, form_parts}
use Rattle.meaning.proofs.Demands.{unique_iff}

-- ---- K = 0

module _ (n : ℕ) (s : List ℕ) (r : ℕ) (shape : bad_shape n s ≡ false) (sound : ltb (bad_record n s) (2 ^ n) ≡ false) (none : frees (rules n s) ≡ 0) where
  pub nothing-checked : checking n s r ≡ HoldsNothing
  unfolding checking sheet_refusals
  nothing-checked = rw (shape, sound, none)

  pub nothing-encoded : (p out : List ℕ) → encoding n s r p out ≡ leaving out HoldsNothing
  unfolding encoding encode_refusals sheet_refusals
  nothing-encoded p out = rw (shape, sound, none)

  pub nothing_read : (w out : List ℕ) → reading_back n s r w out ≡ leaving out HoldsNothing
  unfolding reading_back read_refusals sheet_refusals
  nothing_read w out = rw (shape, sound, none)

  pub nothing-decoded : (c : ℕ) (w out : List ℕ) → decoding n s r c w out ≡ leaving out HoldsNothing
  unfolding decoding decode_refusals form_refusals sheet_refusals
  nothing-decoded c w out = rw (shape, sound, none)

-- ---- a sheet that is not refused

pub payload_held : (n : ℕ) (s : List ℕ) (r : ℕ) → refuses (sheet_refusals n s r) ≡ false → 1 ≤ frees (rules n s) - r
payload_held n s r ok = omega (arith, (good n s r ok).holding)

all-agree : (w : List ℕ) (x : List Bool) → all erased w ≡ true → agrees w x ≡ true
all-agree [] x h = refl
all-agree (a ∷ w) [] h = refl
all-agree (zero ∷ w) (b ∷ x) h = absurd (false≢true h)
all-agree (suc zero ∷ w) (b ∷ x) h = absurd (false≢true h)
all-agree (suc (suc a) ∷ w) (b ∷ x) h = all-agree w x h

-- two members that differ
two_differ : {A : Type 0} (l : List A) (x y : A) → Memᴰ x l → Memᴰ y l → (x ≡ y → ⊥) → 1 < length l
two_differ [] x y p q h = absurd (Memᴰ.not-nil p)
two_differ (z ∷ []) x y p q h = absurd (h (Memᴰ.eq_of_singleton p ∙ sym (Memᴰ.eq_of_singleton q)))
two_differ (z ∷ t ∷ l) x y p q h = omega arith

module _ (n : ℕ) (s : List ℕ) (r : ℕ) (w : List ℕ) (ok : Good n s r) (lost : all erased w ≡ true) where
  abbrev ks : List Rule
  ks = rules n s

  -- the codeword of a payload that is one bit, again and again
  abbrev us : Bool → List Bool
  us b = encoded ks r (replicate (frees ks - r) b)

  kept : (b : Bool) → (length (us b) ≡ 2 ^ n) × (keeps ks r (us b) ≡ true) × (take (length (replicate (frees ks - r) b)) (free_bits ks (us b)) ≡ replicate (frees ks - r) b)
  kept b = encoded-keeps n ks r (length-rules n s) ok.ordered (replicate (frees ks - r) b) (omega (arith, length-replicate (frees ks - r) b, ok.holding))

  payload : (b : Bool) → take (frees ks - r) (free_bits ks (us b)) ≡ replicate (frees ks - r) b
  payload b = ap (λ (m : ℕ). take m (free_bits ks (us b))) (sym (length-replicate (frees ks - r) b)) ∙ (kept b).2

  member : (b : Bool) → Memᴰ (polar n (us b)) (candidates n ks r w)
  member b =
      let (l, k, t) = kept b in
      (candidate_iff n ks r w (polar n (us b))).1 ((length-polar n (us b) l, ap (keeps ks r) (polar-polar n (us b) l) ∙ k), all-agree w (polar n (us b)) lost)

  differ : polar n (us true) ≡ polar n (us false) → ⊥
  differ e =
      let u : us true ≡ us false = sym (polar-polar n (us true) (kept true).0) ∙ ap (polar n) e ∙ polar-polar n (us false) (kept false).0 in
      apart (frees ks - r) (omega (arith, ok.holding)) (sym (payload true) ∙ ap (λ (v : List Bool). take (frees ks - r) (free_bits ks v)) u ∙ payload false)
    where
      apart : (k : ℕ) → 1 ≤ k → replicate k true ≡ replicate k false → ⊥
      apart zero h q = omega arith
      apart (suc k) h q = false≢true (sym (ap (λ (l : List Bool). get_or l 0 false) q))

  pub lost_several : 1 < length (candidates n ks r w)
  lost_several = two_differ (candidates n ks r w) (polar n (us true)) (polar n (us false)) (member true) (member false) differ

pub lost-not_unique : (n : ℕ) (s : List ℕ) (r c : ℕ) (w out : List ℕ) → refuses (form_refusals n s r c w (length out)) ≡ false → unknowns n (rules n s) w ≤ c → all erased w ≡ true
    → numbers_of (decoding n s r c w out).answer ≡ 0 ∷ 0 ∷ unknowns n (rules n s) w ∷ equations n (rules n s) r w ∷ 0 ∷ [] → ⊥
lost-not_unique n s r c w out ok h lost e = omega (arith, lost_several n s r w (form_parts n s r c w (length out) ok).0 lost, (unique_iff n s r c w out ok h).0 e)
