-- Open positions: by two vectors, by their difference, and by halves.
--     open_diff_lem       by two vectors = by one difference
--     open_list       = by halves, for all positions
--     ones-opens      as many are open as are erased
use mathlib.Core.Path.{◌≡◌, refl, sym, ap, ap₂, ◌∙◌}
use mathlib.Core.Logic.{◌⊎◌, inl, inr, ◌↔◌}
use Prim.Native.Nat.{ℕ, zero, suc, ◌+◌, ◌^◌, ◌<◌}
use native.Mathlib.Omega.{arith}
use native.Mathlib.Nat.{suc_inj}
use mathlib.Core.Bool.{Bool, true, false, ◌&&◌, ◌||◌, not, false≢true}
use mathlib.Core.List.{List, [], ◌∷◌, ◌++◌}
use lib.ListN.{length, get_or, take, drop, length-append, length-take, length-drop, get_or-append}
use lib.Seq.{take-take, take-add, get_or-take, get_or-drop, take-append-le, take-append-add, take_at, drop_at}
use Rattle.bits.specs.Vectors.{◌⊕◌, ◌⊞◌, all_bits, any, tab, zeros, ones}
use Rattle.bits.proofs.Rising.{any-bits, bits-any}
use Rattle.bits.proofs.Tests.{and_l, and_r, and_i, bool_ext, count_append, tab-get_or}
use Rattle.bits.proofs.Xor.{⊞-comm, length-⊞, get_or-⊞, take-⊞, none, ⊞-none, length_none, zeros-none, is_none, ⊞-self, zeros_append}
use Rattle.meaning.specs.Open.{is_open, open_pair, is_open_d, open_diff, opens, either, both, meet, clear}
use Rattle.meaning.specs.Transform.{polar}
use Rattle.meaning.proofs.Formula.{side, get_or-from}
use Rattle.meaning.proofs.Polar.{splits, polar-⊞, polar_append, polar-polar, length-polar}

-- ---- by pairs and by differences

pub meet-clear : (es x y : List Bool) → meet es x y ≡ clear es (x ⊞ y)
meet-clear [] x y = refl
meet-clear (e ∷ es) [] y = refl
meet-clear (e ∷ es) (a ∷ x) [] = refl
meet-clear (e ∷ es) (a ∷ x) (b ∷ y) = ap (λ (t : Bool). (e || not (a ⊕ b)) && t) (meet-clear es x y)

pair_diff : (n : ℕ) (es : List Bool) (i : ℕ) (u v : List Bool) → length u ≡ 2 ^ n → length v ≡ 2 ^ n → open_pair n es i u v ≡ open_diff n es i (u ⊞ v)
unfolding open_pair open_diff
pair_diff n es i u v lu lv = rw (meet-clear, polar-⊞ n u v lu lv, take-⊞, get_or-⊞ u v i (lu ∙ sym lv))

pub open_diff_lem : (n : ℕ) (es : List Bool) (i : ℕ) → is_open n es i ≡ is_open_d n es i
unfolding is_open is_open_d
open_diff_lem n es i = bool_ext _ _
    (λ h.
    let (u, lu, hu) = any-bits (λ (u : List Bool). any (open_pair n es i u) (all_bits (2 ^ n))) (2 ^ n) h in
    let (v, lv, hv) = any-bits (open_pair n es i u) (2 ^ n) hu in
    bits-any (open_diff n es i) (2 ^ n) (u ⊞ v) (length-⊞ u v (lu ∙ sym lv) ∙ lu) (sym (pair_diff n es i u v lu lv) ∙ hv))
    (λ h.
    let (d, ld, hd) = any-bits (open_diff n es i) (2 ^ n) h in
    bits-any (λ (u : List Bool). any (open_pair n es i u) (all_bits (2 ^ n))) (2 ^ n) d ld
    (bits-any (open_pair n es i d) (2 ^ n) (none (2 ^ n)) (length_none (2 ^ n))
    (pair_diff n es i d (none (2 ^ n)) ld (length_none (2 ^ n)) ∙ rw (⊞-none d (2 ^ n) ld) hd)))

-- ---- vectors of zeros

none-⊞ : (m : ℕ) → none m ⊞ none m ≡ none m
none-⊞ m = ⊞-none (none m) m (length_none m)

pub polar-none : (n : ℕ) → polar n (none (2 ^ n)) ≡ none (2 ^ n)
polar-none n =
    let l = length_none (2 ^ n) in
    let e = polar-⊞ n (none (2 ^ n)) (none (2 ^ n)) l l in
    ap (polar n) (sym (none-⊞ (2 ^ n))) ∙ e ∙ ⊞-self (polar n (none (2 ^ n))) ∙ ap none (length-polar n (none (2 ^ n)) l)

-- ---- erased places by halves

clear_append : (a b x y : List Bool) → length a ≡ length x → clear (a ++ b) (x ++ y) ≡ clear a x && clear b y
clear_append [] b [] y h = refl
clear_append [] b (c ∷ x) y h = absurd (omega arith)
clear_append (e ∷ a) b [] y h = absurd (omega arith)
clear_append (e ∷ a) b (c ∷ x) y h = go (e || not c) (clear_append a b x y (suc_inj h))
  where
    go : (t : Bool) → clear (a ++ b) (x ++ y) ≡ clear a x && clear b y → t && clear (a ++ b) (x ++ y) ≡ t && clear a x && clear b y
    go true q = q
    go false q = refl

clear-either : (a b v w : List Bool) → clear a (v ⊞ w) ≡ true → clear b w ≡ true → length v ≡ length w → clear (either a b) v ≡ true
clear-either [] b v w p q l = refl
clear-either (d ∷ a) [] v w p q l = refl
clear-either (d ∷ a) (e ∷ b) [] w p q l = refl
clear-either (d ∷ a) (e ∷ b) (x ∷ v) [] p q l = absurd (omega arith)
clear-either (d ∷ a) (e ∷ b) (x ∷ v) (y ∷ w) p q l =
    and_i _ _ (one d e x y (and_l _ _ p) (and_l _ _ q)) (clear-either a b v w (and_r (d || not (x ⊕ y)) _ p) (and_r (e || not y) _ q) (suc_inj l))
  where
    one : (d e x y : Bool) → d || not (x ⊕ y) ≡ true → e || not y ≡ true → d || e || not x ≡ true
    one true e x y h k = refl
    one false true x y h k = refl
    one false false x true h k = absurd (false≢true k)
    one false false true false h k = h
    one false false false false h k = refl

-- the right half that goes with v: v where the left half is not erased
fill : List Bool → List Bool → List Bool
fill [] v = []
fill (d ∷ a) [] = []
fill (d ∷ a) (x ∷ v) = (not d && x) ∷ fill a v

length-fill : (a v : List Bool) → length a ≡ length v → length (fill a v) ≡ length v
unfolding fill
length-fill [] v h = h
length-fill (d ∷ a) [] h = absurd (omega arith)
length-fill (d ∷ a) (x ∷ v) h = ap suc (length-fill a v (suc_inj h))

clear-left : (a v : List Bool) → clear a (v ⊞ fill a v) ≡ true
unfolding fill
clear-left [] v = refl
clear-left (d ∷ a) [] = refl
clear-left (true ∷ a) (x ∷ v) = clear-left a v
clear-left (false ∷ a) (true ∷ v) = clear-left a v
clear-left (false ∷ a) (false ∷ v) = clear-left a v

clear-right : (a b v : List Bool) → length a ≡ length b → clear (either a b) v ≡ true → clear b (fill a v) ≡ true
unfolding fill
clear-right [] [] v l h = refl
clear-right [] (e ∷ b) v l h = refl
clear-right (d ∷ a) [] v l h = absurd (omega arith)
clear-right (d ∷ a) (e ∷ b) [] l h = refl
clear-right (d ∷ a) (e ∷ b) (x ∷ v) l h = and_i _ _ (one d e x (and_l _ _ h)) (clear-right a b v (suc_inj l) (and_r (d || e || not x) _ h))
  where
    one : (d e x : Bool) → d || e || not x ≡ true → e || not (not d && x) ≡ true
    one d true x k = refl
    one true false x k = refl
    one false false x k = k

both-clear : (a b w : List Bool) → length a ≡ length b → clear (both a b) w ≡ clear a w && clear b w
both-clear [] [] w l = refl
both-clear [] (e ∷ b) w l = absurd (omega arith)
both-clear (d ∷ a) [] w l = absurd (omega arith)
both-clear (d ∷ a) (e ∷ b) [] l = refl
both-clear (d ∷ a) (e ∷ b) (x ∷ w) l = rw (both-clear a b w (suc_inj l)) (one d e x (clear a w) (clear b w))
  where
    one : (d e x p q : Bool) → ((d && e) || not x) && (p && q) ≡ (d || not x) && p && ((e || not x) && q)
    one true true x p q = refl
    one true false true true q = refl
    one true false true false q = refl
    one true false false p q = refl
    one false e true p q = refl
    one false true false p q = refl
    one false false false p q = refl

same_length : (a b : List Bool) → length a ≡ length b → (length (either a b) ≡ length a) × (length (both a b) ≡ length a)
same_length [] b h = (refl, refl)
same_length (d ∷ a) [] h = absurd (omega arith)
same_length (d ∷ a) (e ∷ b) h = let t = same_length a b (suc_inj h) in (ap suc t.0, ap suc t.1)

take-from : (xs ys : List Bool) (m k : ℕ) → length xs ≡ m → take (m + k) (xs ++ ys) ≡ xs ++ take k ys
take-from xs ys m k e = rw (← e) (take-append-add xs ys k)

-- ---- the theorem

abbrev Open : ℕ → List Bool → ℕ → Type 0
Open n es i = (d : List Bool) × (length d ≡ 2 ^ n) × (zeros (take i d) ≡ true) × (get_or d i false ≡ true) × (clear es (polar n d) ≡ true)

module _ (n : ℕ) (a b : List Bool) (la : length a ≡ 2 ^ n) (lb : length b ≡ 2 ^ n) where
  left_out_lem : (i : ℕ) → i < 2 ^ n → Open (suc n) (a ++ b) i → Open n (either a b) i
  unfolding polar
  left_out_lem i hi (d, ld, z, g, c) =
      let p = take (2 ^ n) d in
      let q = drop (2 ^ n) d in
      let lp : length p ≡ 2 ^ n = simp length-take (omega arith) in
      let lq : length q ≡ 2 ^ n = simp length-drop (omega arith) in
      let lv = length-polar n p lp in
      let lw = length-polar n q lq in
      let lx = length-⊞ (polar n p) (polar n q) (lv ∙ sym lw) ∙ lv in
      let k : clear a (polar n p ⊞ polar n q) && clear b (polar n q) ≡ true = sym (clear_append a b (polar n p ⊞ polar n q) (polar n q) (la ∙ sym lx)) ∙ c in (
        p,
        lp,
        ap zeros (take-take i (2 ^ n) d (omega arith)) ∙ z,
        get_or-take (2 ^ n) d i false hi ∙ g,
        clear-either a b (polar n p) (polar n q) (and_l _ _ k) (and_r (clear a (polar n p ⊞ polar n q)) _ k) (lv ∙ sym lw),
      )

  left_in : (i : ℕ) → i < 2 ^ n → Open n (either a b) i → Open (suc n) (a ++ b) i
  left_in i hi (p, lp, z, g, c) =
      let v = polar n p in
      let w = fill a v in
      let lv = length-polar n p lp in
      let lw : length w ≡ 2 ^ n = length-fill a v (la ∙ sym lv) ∙ lv in
      let lx = length-⊞ v w (lv ∙ sym lw) ∙ lv in
      let e : polar (suc n) (p ++ polar n w) ≡ (v ⊞ w) ++ w = polar_append n p (polar n w) lp ∙ ap (λ (t : List Bool). (v ⊞ t) ++ t) (polar-polar n w lw) in (
        p ++ polar n w,
        simp length-append (omega (arith, length-polar n w lw)),
        ap zeros (take-append-le i p (polar n w) (omega arith)) ∙ z,
        get_or-append p (polar n w) false i (omega arith) ∙ g,
        rw (e, clear_append a b (v ⊞ w) w (la ∙ sym lx)) (and_i _ _ (clear-left a v) (clear-right a b v (la ∙ sym lb) c)),
      )

  right-out : (k : ℕ) → k < 2 ^ n → Open (suc n) (a ++ b) (2 ^ n + k) → Open n (both a b) k
  unfolding polar
  right-out k hk (d, ld, z, g, c) =
      let p = take (2 ^ n) d in
      let q = drop (2 ^ n) d in
      let lp : length p ≡ 2 ^ n = simp length-take (omega arith) in
      let lq : length q ≡ 2 ^ n = simp length-drop (omega arith) in
      let w = polar n q in
      let lw = length-polar n q lq in
      let zz : zeros p && zeros (take k q) ≡ true = sym (ap zeros (take-add (2 ^ n) k d) ∙ zeros_append p (take k q)) ∙ z in
      let ep : p ≡ none (2 ^ n) = is_none p (and_l _ _ zz) ∙ ap none lp in
      let ev : polar n p ⊞ w ≡ w = ap (λ (t : List Bool). polar n t ⊞ w) ep ∙ ap (λ (t : List Bool). t ⊞ w) (polar-none n) ∙ ⊞-comm (none (2 ^ n)) w ∙ ⊞-none w (2 ^ n) lw in (
        q,
        lq,
        and_r (zeros p) _ zz,
        get_or-drop (2 ^ n) d k false ∙ g,
        both-clear a b w (la ∙ sym lb) ∙ sym (clear_append a b w w (la ∙ sym lw)) ∙ ap (λ (t : List Bool). clear (a ++ b) (t ++ w)) (sym ev) ∙ c,
      )

  right_in : (k : ℕ) → k < 2 ^ n → Open n (both a b) k → Open (suc n) (a ++ b) (2 ^ n + k)
  right_in k hk (q, lq, z, g, c) =
      let o = none (2 ^ n) in
      let lo = length_none (2 ^ n) in
      let w = polar n q in
      let lw = length-polar n q lq in
      let ev : polar n o ⊞ w ≡ w = ap (λ (t : List Bool). t ⊞ w) (polar-none n) ∙ ⊞-comm o w ∙ ⊞-none w (2 ^ n) lw in (
        o ++ q,
        simp length-append (omega (arith, lo)),
        ap zeros (take-from o q (2 ^ n) k lo) ∙ zeros_append o (take k q) ∙ and_i _ _ (zeros-none (2 ^ n)) z,
        get_or-from o q (2 ^ n) k lo ∙ g,
        ap (clear (a ++ b)) (polar_append n o q lo) ∙ ap (λ (t : List Bool). clear (a ++ b) (t ++ w)) ev ∙ clear_append a b w w (la ∙ sym lw) ∙ sym (both-clear a b w (la ∙ sym lb)) ∙ c,
      )

pub opens_append : (n : ℕ) (a b : List Bool) → length a ≡ 2 ^ n → opens (suc n) (a ++ b) ≡ opens n (either a b) ++ opens n (both a b)
unfolding opens
opens_append n a b h = rw (take_at a b (2 ^ n) h, drop_at a b (2 ^ n) h)

pub length-opens : (n : ℕ) (es : List Bool) → length es ≡ 2 ^ n → length (opens n es) ≡ 2 ^ n
unfolding opens
length-opens = splits (λ n es. length (opens n es) ≡ 2 ^ n) (λ b. refl)
    (λ n ih a b la lb.
    let (l, m) = same_length a b (la ∙ sym lb) in
    rw (opens_append n a b la, length-append) (omega (arith, ih (either a b) (l ∙ la), ih (both a b) (m ∙ la))))

abbrev Same : ℕ → List Bool → Type 0
Same n es = (i : ℕ) → i < 2 ^ n → Open n es i ↔ (get_or (opens n es) i false ≡ true)

opens_one : (b : Bool) → Same zero (b ∷ [])
unfolding opens polar
opens_one true zero h = (λ o. refl, λ e. (true ∷ [], refl, refl, refl, refl))
opens_one false zero h = (f, λ e. absurd (false≢true e))
  where
    f : Open zero (false ∷ []) zero → false ≡ true
    f ([], l, z, g, c) = g
    f (true ∷ d, l, z, g, c) = c
    f (false ∷ d, l, z, g, c) = g
opens_one b (suc i) h = absurd (omega arith)

opens-two : (n : ℕ) → ((es : List Bool) → length es ≡ 2 ^ n → Same n es) → (a b : List Bool) → length a ≡ 2 ^ n → length b ≡ 2 ^ n → Same (suc n) (a ++ b)
opens-two n ih a b la lb i hi =
    let (l, m) = same_length a b (la ∙ sym lb) in
    rw (opens_append n a b la) (go (side (2 ^ n) i) (l ∙ la) (m ∙ la))
  where
    go : (i < 2 ^ n) ⊎ ((k : ℕ) × (i ≡ 2 ^ n + k)) → length (either a b) ≡ 2 ^ n → length (both a b) ≡ 2 ^ n
        → Open (suc n) (a ++ b) i ↔ (get_or (opens n (either a b) ++ opens n (both a b)) i false ≡ true)
    go (inl q) l m =
        let e = get_or-append (opens n (either a b)) (opens n (both a b)) false i (omega (arith, length-opens n (either a b) l)) in
        let t = ih (either a b) l i q in
        (λ o. e ∙ t.0 (left_out_lem n a b la lb i q o), λ g. left_in n a b la lb i q (t.1 (sym e ∙ g)))
    go (inr (k, p)) l m =
        let q : k < 2 ^ n = omega arith in
        let e = get_or-from (opens n (either a b)) (opens n (both a b)) (2 ^ n) k (length-opens n (either a b) l) in
        let t = ih (both a b) m k q in
        rw p (λ o. e ∙ t.0 (right-out n a b la lb k q o), λ g. right_in n a b la lb k q (t.1 (sym e ∙ g)))

pub opens_open : (n : ℕ) (es : List Bool) → length es ≡ 2 ^ n → (i : ℕ) → i < 2 ^ n → is_open n es i ≡ get_or (opens n es) i false
unfolding is_open_d open_diff
opens_open n es l i hi =
    let t = splits Same opens_one opens-two n es l i hi in
    open_diff_lem n es i ∙ bool_ext (is_open_d n es i) (get_or (opens n es) i false)
    (λ h.
    let (d, ld, hd) = any-bits (open_diff n es i) (2 ^ n) h in
    let zg = and_l (zeros (take i d) && get_or d i false) _ hd in
    t.0 (d, ld, and_l _ _ zg, and_r (zeros (take i d)) _ zg, and_r (zeros (take i d) && get_or d i false) _ hd))
    (λ g.
    let (d, ld, z, o, c) = t.1 g in
    bits-any (open_diff n es i) (2 ^ n) d ld (and_i _ _ (and_i _ _ z o) c))

-- ---- as many are open as are erased

pub ones-opens : (n : ℕ) (es : List Bool) → length es ≡ 2 ^ n → ones (opens n es) ≡ ones es
unfolding opens
ones-opens = splits (λ n es. ones (opens n es) ≡ ones es) (λ b. refl)
    (λ n ih a b la lb.
    let (l, m) = same_length a b (la ∙ sym lb) in
    rw (opens_append n a b la, count_append, count_append (λ (x : Bool). x) a b)
    (ap₂ ◌+◌ (ih (either a b) (l ∙ la)) (ih (both a b) (m ∙ la)) ∙ share a b (la ∙ sym lb)))
  where
    share : (a b : List Bool) → length a ≡ length b → ones (either a b) + ones (both a b) ≡ ones a + ones b
    share [] [] h = refl
    share [] (e ∷ b) h = absurd (omega arith)
    share (d ∷ a) [] h = absurd (omega arith)
    share (true ∷ a) (true ∷ b) h = omega (arith, share a b (suc_inj h))
    share (true ∷ a) (false ∷ b) h = omega (arith, share a b (suc_inj h))
    share (false ∷ a) (true ∷ b) h = omega (arith, share a b (suc_inj h))
    share (false ∷ a) (false ∷ b) h = omega (arith, share a b (suc_inj h))

-- ---- the list of all open positions

pub open_list : (n : ℕ) (es : List Bool) → length es ≡ 2 ^ n → tab (2 ^ n) (is_open n es) ≡ opens n es
open_list n es l =
    let e = length-opens n es l in
    ap (λ (m : ℕ). tab m (is_open n es)) (sym e) ∙ tab-get_or (opens n es) false (is_open n es) (λ i q. opens_open n es l i (omega arith))
