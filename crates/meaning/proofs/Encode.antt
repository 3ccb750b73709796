-- Of each payload there is one codeword: the check bits are the payload's remainder after shifting by r, and the frozen bits follow.
--     keeps-place, place_unique          the rules give one vector for given free bits
--     encoded-keeps, encoded_unique      the u of a payload keeps rules and check, and is the only one
--     carrying_one     the list of codewords with a payload has one member
use mathlib.Core.Path.{◌≡◌, refl, sym, ap, ap₂, ◌∙◌, subst}
use Prim.Native.Nat.{ℕ, suc, ◌+◌, ◌^◌, ◌-◌}
use native.Mathlib.Omega.{arith}
use native.Mathlib.Nat.{suc_inj}
use mathlib.Core.Bool.{Bool, true, false, not}
use mathlib.Core.List.Memᴰ
use mathlib.Core.List.{List, [], ◌∷◌, ◌++◌, append_assoc, append-nil}
use lib.ListN.{length, drop, take, length-append, take-append-drop, length-drop, length-take}
use lib.Seq.{take_at}
use Rattle.bits.specs.Vectors.{◌⊕◌, zeros, same, odd}
use Rattle.bits.proofs.Tests.{and_l, and_r, and_i}
use Rattle.bits.proofs.Xor.{eq_⊕, ⊕-eq, ⊞-self, zeros-none, zeros_eq}
use Rattle.meaning.specs.Payload.{place, encoded, remainder}
use Rattle.meaning.specs.Check.{keeps_rules, free_bits, poly, divides, keeps}
use Rattle.meaning.specs.Limits.{leads}
use Rattle.meaning.specs.Sheet.{Rule, free, frozen, early, frees}
use Rattle.meaning.specs.Transform.{polar}
use Rattle.meaning.specs.Codewords.{payload_of, carrying, Codeword}
use Rattle.meaning.proofs.Polar.{length-polar, polar-polar}
use Rattle.meaning.proofs.Candidates.{earlier_unique, carrying_rise, carrying_iff}
use Rattle.meaning.proofs.Gap.{odd-early}
use Rattle.meaning.proofs.Remainder.{length-poly, check-bits, length-remainder}

-- ---- the frozen bits

pub length-free : (ks : List Rule) (v : List Bool) → length v ≡ length ks → length (free_bits ks v) ≡ frees ks
length-free [] v h = refl
length-free (k ∷ ks) [] h = absurd (omega arith)
length-free (free ∷ ks) (b ∷ v) h = ap suc (length-free ks v (suc_inj h))
length-free (frozen o m ∷ ks) (b ∷ v) h = length-free ks v (suc_inj h)

pub length-place : (ks : List Rule) (c f : List Bool) → length (place ks c f) ≡ length ks
unfolding place
length-place [] c f = refl
length-place (free ∷ ks) c [] = ap suc (length-place ks (c ++ (false ∷ [])) [])
length-place (free ∷ ks) c (b ∷ f) = ap suc (length-place ks (c ++ (b ∷ [])) f)
length-place (frozen o m ∷ ks) c f = ap suc (length-place ks (c ++ ((o ⊕ odd m c) ∷ [])) f)

pub free-place : (ks : List Rule) (c f : List Bool) → length f ≡ frees ks → free_bits ks (place ks c f) ≡ f
unfolding place
free-place [] c [] h = refl
free-place [] c (b ∷ f) h = absurd (omega arith)
free-place (free ∷ ks) c [] h = absurd (omega arith)
free-place (free ∷ ks) c (b ∷ f) h = ap {B = List Bool} (λ t. b ∷ t) (free-place ks (c ++ (b ∷ [])) f (suc_inj h))
free-place (frozen o m ∷ ks) c f h = free-place ks (c ++ ((o ⊕ odd m c) ∷ [])) f h

odd_here : (m c u : List Bool) → zeros (drop (length c) m) ≡ true → odd m (c ++ u) ≡ odd m c
odd_here m c u h = odd-early m c u [] h ∙ ap (odd m) (append-nil c)

next : (c : List Bool) (b : Bool) → length (c ++ (b ∷ [])) ≡ suc (length c)
next c b = simp length-append (omega arith)

pub keeps-place : (ks : List Rule) (c f : List Bool) → early (length c) ks ≡ true → keeps_rules ks (c ++ place ks c f) (place ks c f) ≡ true
unfolding place
keeps-place [] c f h = refl
keeps-place (free ∷ ks) c [] h =
    rw (← (append_assoc c (false ∷ []) (place ks (c ++ (false ∷ [])) []))) (keeps-place ks (c ++ (false ∷ [])) [] (rw next h))
keeps-place (free ∷ ks) c (b ∷ f) h =
    rw (← (append_assoc c (b ∷ []) (place ks (c ++ (b ∷ [])) f))) (keeps-place ks (c ++ (b ∷ [])) f (rw next h))
keeps-place (frozen o m ∷ ks) c f h =
    let b : Bool = o ⊕ odd m c in
    let v : List Bool = place ks (c ++ (b ∷ [])) f in
    and_i _ _ (⊕-eq b (o ⊕ odd m (c ++ b ∷ v)) (ap (λ (t : Bool). o ⊕ t) (sym (odd_here m c (b ∷ v) (and_l _ _ h)))))
    (subst (λ (t : List Bool). keeps_rules ks t v ≡ true) (append_assoc c (b ∷ []) v) (keeps-place ks (c ++ (b ∷ [])) f (rw next (and_r (zeros (drop (length c) m)) _ h))))

pub place_unique : (ks : List Rule) (c v : List Bool) → early (length c) ks ≡ true → length v ≡ length ks → keeps_rules ks (c ++ v) v ≡ true → v ≡ place ks c (free_bits ks v)
unfolding place
place_unique [] c [] h l k = refl
place_unique [] c (b ∷ v) h l k = absurd (omega arith)
place_unique (x ∷ ks) c [] h l k = absurd (omega arith)
place_unique (free ∷ ks) c (b ∷ v) h l k =
    ap {B = List Bool} (λ t. b ∷ t) (place_unique ks (c ++ (b ∷ [])) v (rw next h) (suc_inj l) (subst (λ (t : List Bool). keeps_rules ks t v ≡ true) (sym (append_assoc c (b ∷ []) v)) k))
place_unique (frozen o m ∷ ks) c (b ∷ v) h l k =
    let e : b ≡ o ⊕ odd m c = eq_⊕ b (o ⊕ odd m (c ++ b ∷ v)) (and_l _ _ k) ∙ ap (λ (t : Bool). o ⊕ t) (odd_here m c (b ∷ v) (and_l _ _ h)) in
    ap₂ {C = List Bool} (λ (x : Bool) (t : List Bool). x ∷ t) e
    (place_unique ks (c ++ (b ∷ [])) v (rw next (and_r (zeros (drop (length c) m)) _ h)) (suc_inj l)
    (subst (λ (t : List Bool). keeps_rules ks t v ≡ true) (sym (append_assoc c (b ∷ []) v)) (and_r (not (b ⊕ (o ⊕ odd m (c ++ b ∷ v)))) _ k))
    ∙ ap (λ (x : Bool). place ks (c ++ (x ∷ [])) (free_bits ks v)) e)

-- ---- the codeword of a payload

module _ (n : ℕ) (ks : List Rule) (r : ℕ) (lk : length ks ≡ 2 ^ n) (ok : early 0 ks ≡ true) (p : List Bool) (lp : length p + r ≡ frees ks) where
  pub encoded-keeps : (length (encoded ks r p) ≡ 2 ^ n) × (keeps ks r (encoded ks r p) ≡ true) × (take (length p) (free_bits ks (encoded ks r p)) ≡ p)
  unfolding encoded keeps
  encoded-keeps =
      let c : List Bool = remainder (poly r) (leads r ++ p) in
      let lc : length c ≡ r = length-remainder (poly r) (leads r ++ p) ∙ length-poly r in
      let e : free_bits ks (place ks [] (p ++ c)) ≡ p ++ c = free-place ks [] (p ++ c) (simp length-append (omega arith)) in
      (length-place ks [] _ ∙ lk, and_i _ _ (keeps-place ks [] _ ok) (rw e ((check-bits r p c lc).1 refl)), rw e (take_at p c (length p) refl))

  pub encoded_unique : (u : List Bool) → length u ≡ 2 ^ n → keeps ks r u ≡ true → take (length p) (free_bits ks u) ≡ p → u ≡ encoded ks r p
  unfolding encoded keeps
  encoded_unique u lu k e =
      let f : List Bool = free_bits ks u in
      let c : List Bool = drop (length p) f in
      let lf : length f ≡ frees ks = length-free ks u (lu ∙ sym lk) in
      let lc : length c ≡ r = simp length-drop (omega arith) in
      let ef : p ++ c ≡ f = ap (λ (t : List Bool). t ++ c) (sym e) ∙ take-append-drop (length p) f in
      let ec : c ≡ remainder (poly r) (leads r ++ p) = (check-bits r p c lc).0 (ap (λ (t : List Bool). divides r (leads r ++ t)) ef ∙ and_r (keeps_rules ks u u) _ k) in
      place_unique ks [] u ok (lu ∙ sym lk) (and_l (keeps_rules ks u u) _ k) ∙ ap (place ks []) (sym ef ∙ ap (λ (t : List Bool). p ++ t) ec)

  payload_length : frees ks - r ≡ length p
  payload_length = omega arith

  same_self : (v : List Bool) → same v v ≡ true
  same_self v = ap zeros (⊞-self v) ∙ zeros-none (length v)

  -- there is one codeword with payload p
  pub carrying_one : carrying n ks r p ≡ polar n (encoded ks r p) ∷ []
  unfolding payload_of
  carrying_one =
      let (le, ke, te) = encoded-keeps in
      let one : (x : List Bool) → Codeword n ks r x → same p (payload_of n ks r x) ≡ true → x ≡ polar n (encoded ks r p) =
      λ x (lx, k) e.
      let u : List Bool = polar n x in
      let lu : length u ≡ 2 ^ n = length-polar n x lx in
      let lf : length (free_bits ks u) ≡ frees ks = length-free ks u (lu ∙ sym lk) in
      let lt : length p ≡ length (take (frees ks - r) (free_bits ks u)) = sym (simp length-take (omega arith)) in
      let t : take (length p) (free_bits ks u) ≡ p = ap (λ (m : ℕ). take m (free_bits ks u)) (sym payload_length) ∙ sym (zeros_eq p (take (frees ks - r) (free_bits ks u)) lt e) in
      sym (polar-polar n x lx) ∙ ap (polar n) (encoded_unique u lu k t) in
      let back : polar n (polar n (encoded ks r p)) ≡ encoded ks r p = polar-polar n (encoded ks r p) le in
      let is : same p (payload_of n ks r (polar n (encoded ks r p))) ≡ true =
      ap (λ (t : List Bool). same p (take (frees ks - r) (free_bits ks t))) back ∙ ap (λ (m : ℕ). same p (take m (free_bits ks (encoded ks r p)))) payload_length ∙ ap (same p) te ∙ same_self p in
      earlier_unique n (carrying n ks r p) (polar n (encoded ks r p) ∷ []) (carrying_rise n ks r p) (tt, tt)
      (λ x. (
        λ m. let (k, e) = (carrying_iff n ks r p x).0 m in Memᴰ.head (one x k e),
        λ m. Memᴰ.cast (Memᴰ.eq_of_singleton m) ((carrying_iff n ks r p (polar n (encoded ks r p))).1 ((length-polar n (encoded ks r p) le, ap (keeps ks r) back ∙ ke), is)),
      ))
