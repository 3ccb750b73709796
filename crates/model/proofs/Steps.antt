-- What a proof of code cites of `decode`, for any values.
--     decode_one, decode_halves         its two cases
--     decode-behind                     the equations so far are only passed on: a solver can be fed each one as it comes
--     decode-most                       a block of 2 ^ n symbols has at most so many equations
--     length-checks                     the check has r equations
--     counted                           how long its lists get, and how many unknowns and equations a block adds
use mathlib.Core.Path.{◌≡◌, refl, sym, ap, ap₂, ◌∙◌}
use Prim.Native.Nat.{ℕ, zero, suc, ◌+◌, ◌^◌, ◌≤◌}
use native.Mathlib.Omega.{arith}
use native.Mathlib.Nat.{pow-suc}
use mathlib.Core.Bool.{Bool, true, false}
use mathlib.Core.List.{List, [], ◌∷◌, ◌++◌, map, append-nil, append_assoc}
use mathlib.Core.Option.{Option, none, some}
use lib.ListN.{length, take, drop, replicate, length-append, length-map, length-replicate}
use lib.Seq.{take_at, drop_at}
use Rattle.bits.specs.Vectors.{ones}
use Rattle.meaning.specs.Limits.{leads}
use Rattle.meaning.specs.Sheet.{Rule, free, frozen}
use Rattle.meaning.specs.Check.{free_bits, poly}
use Rattle.meaning.specs.Open.{opens, open_free, closed_frozen}
use Rattle.meaning.proofs.Polar.{length-polar}
use Rattle.meaning.proofs.Remainder.{length_rest, length-poly}
use Rattle.model.specs.Model.{Values, Walk, Out, left_syms, right_syms, eqs_at, out_at, join_out, decode, checks}
use Rattle.model.specs.Related.{Along, nil, cons, Sym, gone, known, Bound, BoundOut}
use Rattle.model.specs.AtBits.{bits}
use Rattle.model.specs.Counted.{rules_from, lost, Counted, behind}
use Rattle.model.proofs.Relate.{along_length, decode_bound, checks_bound}
use Rattle.model.proofs.Leaf.{leaf, lost_leaf}
use Rattle.model.proofs.AtBits.{checks-bits, walk, walk_us, Found, found}
use Rattle.model.proofs.Walked.{walk_next, walk_many}

-- ---- the cases of `decode`, and the equations so far

module _ {A : Type 0} (𝓥 : Values A) (rule : ℕ → Rule) where
  pub decode_one : (x : Option A) (s : Walk A) → decode 𝓥 rule 0 (x ∷ []) s ≡ out_at 𝓥 (rule (length s.us)) (x ∷ []) s
  unfolding decode
  decode_one x s = refl

  pub decode_halves : (n : ℕ) (a b : List (Option A)) → length a ≡ 2 ^ n → (s : Walk A)
      → decode 𝓥 rule (suc n) (a ++ b) s ≡ (let l = decode 𝓥 rule n (left_syms 𝓥 a b) s in join_out 𝓥 l (decode 𝓥 rule n (right_syms 𝓥 a b l.block) l.after))
  unfolding decode
  decode_halves n a b la s = rw (take_at a b (2 ^ n) la, drop_at a b (2 ^ n) la)

  abbrev Behind : ℕ → Type 0
  Behind n = (w : List (Option A)) (us : List A) (k : ℕ) (es : List A)
      → decode 𝓥 rule n w (record { us = us; next = k; eqs = es }) ≡ behind es (decode 𝓥 rule n w (record { us = us; next = k; eqs = [] }))

  behind_twice : (es fs : List A) (o : Out A) → behind (es ++ fs) o ≡ behind es (behind fs o)
  behind_twice es fs o =
      ap (λ (l : List A). record { block = o.block; after = record { us = o.after.us; next = o.after.next; eqs = l } }) (append_assoc es fs o.after.eqs)

  -- the right half, behind a left half that is behind es
  second : (n : ℕ) → Behind n → (a b : List (Option A)) (es : List A) (l o : Out A) → l ≡ behind es o
      → join_out 𝓥 l (decode 𝓥 rule n (right_syms 𝓥 a b l.block) l.after) ≡ behind es (join_out 𝓥 o (decode 𝓥 rule n (right_syms 𝓥 a b o.block) o.after))
  second n ih a b es l o e =
      let r : List (Option A) = right_syms 𝓥 a b o.block in
      let clean : Out A = decode 𝓥 rule n r (record { us = o.after.us; next = o.after.next; eqs = [] }) in
      ap (λ (l : Out A). join_out 𝓥 l (decode 𝓥 rule n (right_syms 𝓥 a b l.block) l.after)) e
      ∙ ap (join_out 𝓥 o) (ih r o.after.us o.after.next (es ++ o.after.eqs) ∙ behind_twice es o.after.eqs clean
      ∙ ap (behind es) (sym (ih r o.after.us o.after.next o.after.eqs)))

  -- the equations so far stay in front, and nothing else depends on them
  pub decode-behind : (n : ℕ) (w : List (Option A)) (us : List A) (k : ℕ) (es : List A)
      → decode 𝓥 rule n w (record { us = us; next = k; eqs = es }) ≡ behind es (decode 𝓥 rule n w (record { us = us; next = k; eqs = [] }))
  unfolding decode
  decode-behind zero [] us k es = ap (λ (l : List A). record { block = []; after = record { us = us; next = k; eqs = l } }) (sym (append-nil es))
  decode-behind zero (x ∷ w) us k es = refl
  decode-behind (suc n) w us k es =
      let a = take (2 ^ n) w in
      let b = drop (2 ^ n) w in
      let l : List A → Out A = λ es. decode 𝓥 rule n (left_syms 𝓥 a b) (record { us = us; next = k; eqs = es }) in
      second n (decode-behind n) a b es (l es) (l []) (decode-behind n (left_syms 𝓥 a b) us k es)

-- a block of 2 ^ n symbols has at most so many equations
pub decode-most : {A : Type 0} (𝓥 : Values A) (rule : ℕ → Rule) (n : ℕ) (w : List (Option A)) (s : Walk A) → length (decode 𝓥 rule n w s).after.eqs ≤ length s.eqs + 2 ^ n
unfolding decode
decode-most 𝓥 rule zero [] s = omega arith
decode-most {A = A} 𝓥 rule zero (x ∷ w) s = omega (arith, length-append s.eqs (eqs_at 𝓥 (rule (length s.us)) x s.us), one (rule (length s.us)) x)
  where
    one : (k : Rule) (x : Option A) → length (eqs_at 𝓥 k x s.us) ≤ 1
    one k none = omega arith
    one free (some a) = omega arith
    one (frozen b m) (some a) = omega arith
decode-most 𝓥 rule (suc n) w s =
    let a = take (2 ^ n) w in
    let b = drop (2 ^ n) w in
    let l = decode 𝓥 rule n (left_syms 𝓥 a b) s in
    omega (arith, decode-most 𝓥 rule n (left_syms 𝓥 a b) s, decode-most 𝓥 rule n (right_syms 𝓥 a b l.block) l.after, pow-suc 2 n)

-- ---- counts: any values are bound to bits by the relation that always holds

module _ {A : Type 0} where
  abbrev Any : A → Bool → Type 0
  Any a b = Unit {0}

  any_bound : (lim : ℕ) (𝓥 : Values A) (t : ℕ → Bool) → Bound Any lim 𝓥 (bits t)
  any_bound lim 𝓥 t = record { plus = λ p q. tt; nought = tt; unit = tt; unknown = λ k i. tt }

  any_along : (l : List A) → Along Any l (replicate (length l) false)
  any_along [] = nil
  any_along (a ∷ l) = cons tt (any_along l)

  shade : Option A → Option Bool
  shade none = none
  shade (some a) = some false

  any-syms : (w : List (Option A)) → Along (Sym Any) w (map shade w)
  unfolding shade
  any-syms [] = nil
  any-syms (none ∷ w) = cons gone (any-syms w)
  any-syms (some a ∷ w) = cons (known tt) (any-syms w)

  lost_shade : (w : List (Option A)) → map lost (map shade w) ≡ map lost w
  unfolding shade
  lost_shade [] = refl
  lost_shade (none ∷ w) = ap {B = List Bool} (λ (l : List Bool). true ∷ l) (lost_shade w)
  lost_shade (some a ∷ w) = ap {B = List Bool} (λ (l : List Bool). false ∷ l) (lost_shade w)

module _ {A : Type 0} (𝓥 : Values A) (rule : ℕ → Rule) where
  -- every unknown 0
  abbrev unset : ℕ → Bool
  unset k = false

  -- s and o over the values, s' and o' over bits
  tally : (n : ℕ) (w : List (Option A)) → length w ≡ 2 ^ n → (s : Walk A) (o : Out A) (s' : Walk Bool) (o' : Out Bool)
      → length s'.us ≡ length s.us → length s'.eqs ≡ length s.eqs → s.next ≡ s'.next → BoundOut Any o o'
      → (v : List Bool) → Found unset rule n (map shade w) s' o' v → Counted rule n w s o
  tally n w lw s o s' o' lu le en b v (lv, bv, wv, rv) =
      let t = unset in
      let xs : List (Option Bool) = leaf t n (map shade w) v in
      let ks : List Rule = rules_from rule (length s'.us) (2 ^ n) in
      let e : map lost xs ≡ opens n (map lost w) = lost_leaf t n v lv (map shade w) (length-map w shade ∙ lw) ∙ ap (opens n) (lost_shade w) in
      let ek : ks ≡ rules_from rule (length s.us) (2 ^ n) = ap (λ (j : ℕ). rules_from rule j (2 ^ n)) lu in
      let eu : (walk t ks xs s').us ≡ s'.us ++ v = walk_us t ks xs s' ∙ ap (λ (l : List Bool). s'.us ++ l) (sym rv) in
      record {
        block = along_length b.block ∙ ap length bv ∙ length-polar n v lv;
        us = along_length b.after.us ∙ ap (λ (x : Walk Bool). length x.us) wv ∙ ap length eu ∙ length-append s'.us v ∙ ap₂ ◌+◌ lu lv;
        next = b.after.next ∙ ap (λ (x : Walk Bool). x.next) wv ∙ walk_next t ks xs s'
            ∙ ap₂ ◌+◌ (sym en) (ap₂ (λ (l : List Rule) (f : List Bool). ones (open_free l f)) ek e);
        eqs = along_length b.after.eqs ∙ ap (λ (x : Walk Bool). length x.eqs) wv ∙ walk_many t ks xs s'
            ∙ ap₂ ◌+◌ le (ap₂ (λ (l : List Rule) (f : List Bool). ones (closed_frozen l f)) ek e);
      }

  pub counted : (n : ℕ) (w : List (Option A)) → length w ≡ 2 ^ n → (s : Walk A) → Counted rule n w s (decode 𝓥 rule n w s)
  counted n w lw s =
      let s' : Walk Bool = record { us = replicate (length s.us) false; next = s.next; eqs = replicate (length s.eqs) false } in
      let w' : List (Option Bool) = map shade w in
      let lim = (decode 𝓥 rule n w s).after.next in
      let b = decode_bound lim 𝓥 (bits unset) (any_bound lim 𝓥 unset) rule n (any-syms w) {s = s} {t = s'}
      (record { us = any_along s.us; next = refl; eqs = any_along s.eqs }) (omega arith) in
      let (v, f) = found unset rule n w' (length-map w shade ∙ lw) s' in
      tally n w lw s (decode 𝓥 rule n w s) s' (decode (bits unset) rule n w' s') (length-replicate (length s.us) false) (length-replicate (length s.eqs) false) refl b v f

  -- ---- the check

  pub length-checks : (r : ℕ) (ks : List Rule) (us : List A) → length (checks 𝓥 r ks us) ≡ r
  length-checks r ks us =
      let u = replicate (length us) false in
      along_length (checks_bound 0 𝓥 (bits unset) (any_bound 0 𝓥 unset) r ks (any_along us)) ∙ ap length (checks-bits unset r ks u)
      ∙ length_rest (poly r) (replicate r false) (leads r ++ free_bits ks u) (length-replicate r false ∙ sym (length-poly r)) ∙ length-poly r
