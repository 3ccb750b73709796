-- Two runs of the model over values that a relation binds give results that it binds; so the model commutes with every map that keeps sums, 0 and 1.
--     decode_bound, run_bound, system_bound     for a relation
--     decode-map, run-map, system-map           for a map
--     decode_grows                              unknowns are only ever handed out
use mathlib.Core.Path.{◌≡◌, refl, ap, ap₂, ◌∙◌, subst}
use Prim.Native.Nat.{ℕ, zero, suc, ◌^◌, ◌≤◌}
use native.Mathlib.Omega.{arith}
use mathlib.Core.Bool.{Bool, true, false}
use mathlib.Core.List.{List, [], ◌∷◌, ◌++◌, map}
use mathlib.Core.Option.{Option, none, some}
use lib.ListN.{length, take, drop, replicate}
use Rattle.bits.specs.Vectors.{tab}
use Rattle.meaning.specs.Check.{poly}
use Rattle.meaning.specs.Limits.{leads}
use Rattle.meaning.specs.Sheet.{Rule, free, frozen}
use Rattle.model.specs.Model.{Values, Walk, Out, free_of, sums, gate, scaled, named, rule_value, left_sym, right_sym, left_syms, right_syms}
use Rattle.model.specs.Model.{next_at, value_at, eqs_at, out_at, decode, shift_of, rest_of, checks, symbol, run, system}
use Rattle.model.specs.Related.{Along, nil, cons, Sym, gone, known, Bound, BoundWalk, BoundOut, Hom, map_sym, map_walk, map_out}

-- ---- lists that a relation binds, place by place

module _ {A B : Type 0} {R : A → B → Type 0} where
  pub along_length : {l : List A} {m : List B} → Along R l m → length l ≡ length m
  along_length nil = refl
  along_length (cons h t) = ap suc (along_length t)

  pub along_append : {l : List A} {m : List B} {l' : List A} {m' : List B} → Along R l m → Along R l' m' → Along R (l ++ l') (m ++ m')
  along_append nil q = q
  along_append (cons h t) q = cons h (along_append t q)

  pub along_take : (n : ℕ) {l : List A} {m : List B} → Along R l m → Along R (take n l) (take n m)
  along_take zero p = nil
  along_take (suc n) nil = nil
  along_take (suc n) (cons h t) = cons h (along_take n t)

  pub along_drop : (n : ℕ) {l : List A} {m : List B} → Along R l m → Along R (drop n l) (drop n m)
  along_drop zero p = p
  along_drop (suc n) nil = nil
  along_drop (suc n) (cons h t) = along_drop n t

  pub along_replicate : (n : ℕ) (a : A) (b : B) → R a b → Along R (replicate n a) (replicate n b)
  along_replicate zero a b h = nil
  along_replicate (suc n) a b h = cons h (along_replicate n a b h)

  pub along_free : (ks : List Rule) {l : List A} {m : List B} → Along R l m → Along R (free_of ks l) (free_of ks m)
  along_free [] p = nil
  along_free (k ∷ ks) nil = nil
  along_free (free ∷ ks) (cons h t) = cons h (along_free ks t)
  along_free (frozen c m ∷ ks) (cons h t) = along_free ks t

-- ---- the recursion

-- unknowns are only ever handed out
pub decode_grows : {A : Type 0} (𝓥 : Values A) (rule : ℕ → Rule) (n : ℕ) (w : List (Option A)) (s : Walk A) → s.next ≤ (decode 𝓥 rule n w s).after.next
unfolding decode
decode_grows 𝓥 rule zero [] s = omega arith
decode_grows {A = A} 𝓥 rule zero (x ∷ w) s = one (rule (length s.us)) x
  where
    one : (k : Rule) (x : Option A) → s.next ≤ next_at k x s.next
    one k (some a) = omega arith
    one free none = omega arith
    one (frozen c m) none = omega arith
decode_grows 𝓥 rule (suc n) w s =
    let a = take (2 ^ n) w in
    let b = drop (2 ^ n) w in
    let l = decode 𝓥 rule n (left_syms 𝓥 a b) s in
    omega (arith, decode_grows 𝓥 rule n (left_syms 𝓥 a b) s, decode_grows 𝓥 rule n (right_syms 𝓥 a b l.block) l.after)

module _ {A B : Type 0} {R : A → B → Type 0} (lim : ℕ) (𝓐 : Values A) (𝓑 : Values B) (𝓡 : Bound R lim 𝓐 𝓑) where
  bound_sums : {l : List A} {m : List B} {l' : List A} {m' : List B} → Along R l m → Along R l' m' → Along R (sums 𝓐 l l') (sums 𝓑 m m')
  bound_sums nil q = nil
  bound_sums (cons h t) nil = nil
  bound_sums (cons h t) (cons h' t') = cons (𝓡.plus h h') (bound_sums t t')

  bound_gate : (c : Bool) {a : A} {b : B} → R a b → R (gate 𝓐 c a) (gate 𝓑 c b)
  bound_gate true h = h
  bound_gate false h = 𝓡.nought

  bound_scaled : (g : List Bool) {a : A} {b : B} → R a b → Along R (scaled 𝓐 g a) (scaled 𝓑 g b)
  bound_scaled [] h = nil
  bound_scaled (x ∷ g) h = cons (bound_gate x h) (bound_scaled g h)

  bound_named : (ms : List Bool) {l : List A} {m : List B} → Along R l m → R (named 𝓐 ms l) (named 𝓑 ms m)
  bound_named [] p = 𝓡.nought
  bound_named (x ∷ ms) nil = 𝓡.nought
  bound_named (x ∷ ms) (cons h t) = 𝓡.plus (bound_gate x h) (bound_named ms t)

  bound_rule : (c : Bool) (ms : List Bool) {l : List A} {m : List B} → Along R l m → R (rule_value 𝓐 c ms l) (rule_value 𝓑 c ms m)
  bound_rule c ms p = 𝓡.plus (bound_gate c 𝓡.unit) (bound_named ms p)

  bound_left : {w x : List (Option A)} {y z : List (Option B)} → Along (Sym R) w y → Along (Sym R) x z → Along (Sym R) (left_syms 𝓐 w x) (left_syms 𝓑 y z)
  bound_left nil q = nil
  bound_left (cons h t) nil = nil
  bound_left (cons h t) (cons h' t') = cons (one h h') (bound_left t t')
    where
      one : {s t : Option A} {s' t' : Option B} → Sym R s s' → Sym R t t' → Sym R (left_sym 𝓐 s t) (left_sym 𝓑 s' t')
      one gone q = gone
      one (known p) gone = gone
      one (known p) (known q) = known (𝓡.plus p q)

  bound_right : {w x : List (Option A)} {y z : List (Option B)} {l : List A} {m : List B} → Along (Sym R) w y → Along (Sym R) x z → Along R l m
      → Along (Sym R) (right_syms 𝓐 w x l) (right_syms 𝓑 y z m)
  bound_right nil q r = nil
  bound_right (cons h t) nil r = nil
  bound_right (cons h t) (cons h' t') nil = nil
  bound_right (cons h t) (cons h' t') (cons k r) = cons (one h h' k) (bound_right t t' r)
    where
      one : {s t : Option A} {s' t' : Option B} {a : A} {b : B} → Sym R s s' → Sym R t t' → R a b → Sym R (right_sym 𝓐 s t a) (right_sym 𝓑 s' t' b)
      one p (known q) r = known q
      one gone gone r = gone
      one (known p) gone r = known (𝓡.plus p r)

  bound_at : (k : Rule) {w : List (Option A)} {y : List (Option B)} → Along (Sym R) w y → {s : Walk A} {t : Walk B} → BoundWalk R s t → (out_at 𝓐 k w s).after.next ≤ lim
      → BoundOut R (out_at 𝓐 k w s) (out_at 𝓑 k y t)
  bound_at k nil b i = record { block = nil; after = b }
  bound_at k (cons {a = x} {b = y} h p) {s} {t} b i =
      let e = value k h i in record { block = cons e nil; after = record { us = along_append b.us (cons e nil); next = step k h; eqs = along_append b.eqs (equation k h) } }
    where
      value : (k : Rule) {x : Option A} {y : Option B} → Sym R x y → next_at k x s.next ≤ lim → R (value_at 𝓐 k x s.us s.next) (value_at 𝓑 k y t.us t.next)
      value k (known q) j = q
      value free gone j = subst (λ (i : ℕ). R (𝓐.unknown s.next) (𝓑.unknown i)) b.next (𝓡.unknown s.next j)
      value (frozen c m) gone j = bound_rule c m b.us

      step : (k : Rule) {x : Option A} {y : Option B} → Sym R x y → next_at k x s.next ≡ next_at k y t.next
      step k (known q) = b.next
      step free gone = ap suc b.next
      step (frozen c m) gone = b.next

      equation : (k : Rule) {x : Option A} {y : Option B} → Sym R x y → Along R (eqs_at 𝓐 k x s.us) (eqs_at 𝓑 k y t.us)
      equation k gone = nil
      equation free (known q) = nil
      equation (frozen c m) (known q) = cons (𝓡.plus q (bound_rule c m b.us)) nil

  pub decode_bound : (rule : ℕ → Rule) (n : ℕ) {w : List (Option A)} {y : List (Option B)} → Along (Sym R) w y → {s : Walk A} {t : Walk B} → BoundWalk R s t
      → (decode 𝓐 rule n w s).after.next ≤ lim → BoundOut R (decode 𝓐 rule n w s) (decode 𝓑 rule n y t)
  unfolding decode
  decode_bound rule zero {w} {y} p {s} {t} b i =
      subst (λ (i : ℕ). BoundOut R (out_at 𝓐 (rule (length s.us)) w s) (out_at 𝓑 (rule i) y t)) (along_length b.us) (bound_at (rule (length s.us)) p b i)
  decode_bound rule (suc n) {w} p {s} b i =
      let o = decode 𝓐 rule n (left_syms 𝓐 (take (2 ^ n) w) (drop (2 ^ n) w)) s in
      let j : o.after.next ≤ lim = omega (arith, decode_grows 𝓐 rule n (right_syms 𝓐 (take (2 ^ n) w) (drop (2 ^ n) w) o.block) o.after) in
      let l = decode_bound rule n (bound_left (along_take (2 ^ n) p) (along_drop (2 ^ n) p)) b j in
      let r = decode_bound rule n (bound_right (along_take (2 ^ n) p) (along_drop (2 ^ n) p) l.block) l.after i in
      record { block = along_append (bound_sums l.block r.block) r.block; after = r.after }

  -- ---- the check

  bound_shift : (g : List Bool) {l : List A} {m : List B} {a : A} {b : B} → Along R l m → R a b → Along R (shift_of 𝓐 g l a) (shift_of 𝓑 g m b)
  bound_shift g nil h = nil
  bound_shift g (cons k p) h = bound_sums (along_append p (cons h nil)) (bound_scaled g k)

  bound_rest : (g : List Bool) {l : List A} {m : List B} {v : List A} {w : List B} → Along R l m → Along R v w → Along R (rest_of 𝓐 g l v) (rest_of 𝓑 g m w)
  bound_rest g p nil = p
  bound_rest g {l = l} {m = m} p (cons {a = a} {b = b} {l = l'} {m = m'} h t) = bound_rest g {l = shift_of 𝓐 g l a} {m = shift_of 𝓑 g m b} (bound_shift g p h) t

  pub checks_bound : (r : ℕ) (ks : List Rule) {l : List A} {m : List B} → Along R l m → Along R (checks 𝓐 r ks l) (checks 𝓑 r ks m)
  checks_bound r ks p = bound_rest (poly r) (along_replicate r 𝓐.nought 𝓑.nought 𝓡.nought) (along_append (bound_scaled (leads r) 𝓡.unit) (along_free ks p))

  -- ---- a word

  bound_word : (w : List ℕ) → Along (Sym R) (map (symbol 𝓐) w) (map (symbol 𝓑) w)
  bound_word [] = nil
  bound_word (zero ∷ w) = cons (known 𝓡.nought) (bound_word w)
  bound_word (suc zero ∷ w) = cons (known 𝓡.unit) (bound_word w)
  bound_word (suc (suc s) ∷ w) = cons gone (bound_word w)

  pub run_bound : (rule : ℕ → Rule) (n : ℕ) (w : List ℕ) → (run 𝓐 rule n w).after.next ≤ lim → BoundOut R (run 𝓐 rule n w) (run 𝓑 rule n w)
  unfolding run
  run_bound rule n w i = decode_bound rule n (bound_word w) (record { us = nil; next = refl; eqs = nil }) i

  pub system_bound : (rule : ℕ → Rule) (n r : ℕ) (w : List ℕ) → (run 𝓐 rule n w).after.next ≤ lim → Along R (system 𝓐 rule n r w) (system 𝓑 rule n r w)
  unfolding system
  system_bound rule n r w i = let o = run_bound rule n w i in along_append o.after.eqs (checks_bound r (tab (2 ^ n) rule) o.after.us)

-- ---- a map that keeps sums, 0, 1 and the unknowns

module _ {A B : Type 0} (h : A → B) where
  abbrev pub Graph : A → B → Type 0
  Graph a b = h a ≡ b

  pub along_map : {l : List A} {m : List B} → Along Graph l m → map h l ≡ m
  along_map nil = refl
  along_map (cons e t) = ap₂ {C = List B} (λ (b : B) (r : List B). b ∷ r) e (along_map t)

  pub map_along : (l : List A) → Along Graph l (map h l)
  map_along [] = nil
  map_along (a ∷ l) = cons refl (map_along l)

  syms_along : (w : List (Option A)) → Along (Sym Graph) w (map (map_sym h) w)
  syms_along [] = nil
  syms_along (none ∷ w) = cons gone (syms_along w)
  syms_along (some a ∷ w) = cons (known refl) (syms_along w)

  out-map : {o : Out A} {p : Out B} → BoundOut Graph o p → map_out h o ≡ p
  out-map b =
      let u = along_map b.after.us in
      let n = b.after.next in
      let q = along_map b.after.eqs in
      let x = along_map b.block in
      λ i. record { block = x i; after = record { us = u i; next = n i; eqs = q i } }

  module _ (𝓐 : Values A) (𝓑 : Values B) (𝓗 : Hom h 𝓐 𝓑) where
    hom_bound : (lim : ℕ) → Bound Graph lim 𝓐 𝓑
    hom_bound lim = record {
      plus = λ {a} {a'} p q. 𝓗.plus a a' ∙ ap₂ 𝓑.plus p q;
      nought = 𝓗.nought;
      unit = 𝓗.unit;
      unknown = λ k i. 𝓗.unknown k;
    }

    pub decode-map : (rule : ℕ → Rule) (n : ℕ) (w : List (Option A)) (s : Walk A) → map_out h (decode 𝓐 rule n w s) ≡ decode 𝓑 rule n (map (map_sym h) w) (map_walk h s)
    decode-map rule n w s =
        let lim = (decode 𝓐 rule n w s).after.next in
        out-map (decode_bound lim 𝓐 𝓑 (hom_bound lim) rule n (syms_along w) (record { us = map_along s.us; next = refl; eqs = map_along s.eqs }) (omega arith))

    pub run-map : (rule : ℕ → Rule) (n : ℕ) (w : List ℕ) → map_out h (run 𝓐 rule n w) ≡ run 𝓑 rule n w
    run-map rule n w = let lim = (run 𝓐 rule n w).after.next in out-map (run_bound lim 𝓐 𝓑 (hom_bound lim) rule n w (omega arith))

    pub system-map : (rule : ℕ → Rule) (n r : ℕ) (w : List ℕ) → map h (system 𝓐 rule n r w) ≡ system 𝓑 rule n r w
    system-map rule n r w = let lim = (run 𝓐 rule n w).after.next in along_map (system_bound lim 𝓐 𝓑 (hom_bound lim) rule n r w (omega arith))
