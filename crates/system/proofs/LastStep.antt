-- The check's equations behind the m of a descent, and all solved.
--     few_rows, kept_front     lengths
--     whole, rows_whole the rows of a list of k whole rows, read by either theory
--     part_length       the part of the list that holds the equations
--     never_misfit      the solver takes them
--     last              and leaves what `settled` says
use mathlib.Core.Path.{◌≡◌, sym, ap, ap₂, ◌∙◌}
use Prim.Native.Nat.{ℕ, ◌+◌, ◌*◌, ◌/◌, ◌^◌, ◌≤◌, ◌<◌}
use native.Mathlib.Omega.{arith}
use native.Mathlib.Nat.{add-mul, mul-div_cancel, mul-le-mul_left}
use mathlib.Core.Bool.{Bool, true}
use mathlib.Core.List.{List, [], ◌∷◌, ◌++◌, flatten}
use lib.ListN.{length, take, drop, length-append, length-drop}
use lib.Seq.{take_all, take_at, drop_at, length-take-le}
use borrow.Author.Tests.{eq-eqb, le-leb, lt-ltb}
use Rattle.bits.specs.Rows.{Row, Wide, row, rows, rows_of}
use Rattle.bits.proofs.Tests.{and_i, length-tab}
use Rattle.bits.proofs.RowLaws.{rows-flatten, flatten-rows, wide_rows, length-flatten}
use Rattle.bits.proofs.Records.{flatten_append}
use Rattle.gf2.specs.Solve.{Sys, solve, fits, done, solved}
use Rattle.std.specs.Prelude.{Option, Some, None, Ok}
use Rattle.gf2.proofs.Calls.{all_fit, Left, left}
use Rattle.verdict.proofs.Fitting.{nothing-over}
use Rattle.descent.specs.Descending.{widest}
use Rattle.sheet.proofs.Shapes.{recorded_when}
use Rattle.checks.specs.Checking.{spaced, check_fits, checked, check_of, checking}
use Rattle.checks.proofs.Columns.{length-check, check-wide}
use Rattle.checks.proofs.Promise.{check-tells}
use Rattle.system.specs.declared.Terms.{Terms}
use Rattle.system.specs.Solving.{leaves, Settling, settled}

wide_append : (w : ℕ) (a b : List Row) → Wide w a → Wide w b → Wide w (a ++ b)
wide_append w [] b p q = q
wide_append w (x ∷ a) b p q = (p.0, wide_append w a b p.1 q)

-- a row has a word at least
pub few_rows : (w k l : ℕ) → 0 < w → k * w ≤ l → k ≤ l
few_rows w k l h e = let p : k * 1 ≤ k * w = mul-le-mul_left k h in omega arith

-- a list whose first k words came back is as long as before
pub kept_front : (k : ℕ) (l x : List ℕ) → length x ≡ length (take k l) → k ≤ length l → length (x ++ drop k l) ≡ length l
kept_front k l x e h = simp (length-append, length-drop) (omega (arith, length-take-le k l h))

-- ---- k whole rows

module _ (w k : ℕ) (l : List ℕ) (some : 0 < w) (e : length l ≡ k * w) where
  many-rows : length l / w ≡ k
  many-rows = ap (λ (t : ℕ). t / w) e ∙ mul-div_cancel k some

  all-rows : length l ≡ length l / w * w
  all-rows = e ∙ ap (λ (t : ℕ). t * w) (sym many-rows)

  pub whole : (length l ≡ length l / w * w) × (length l / w ≡ k)
  whole = (all-rows, many-rows)

  pub rows_whole : rows_of w l ≡ rows w k l
  rows_whole = ap (λ (j : ℕ). rows w j l) many-rows

  words_of : (rs : List Row) → rows_of w l ≡ rs → l ≡ flatten rs
  words_of rs h = sym (take_all (k * w) l (omega arith)) ∙ sym (flatten-rows w k l) ∙ ap flatten (sym rows_whole ∙ h)

-- ---- the last step

module _ (t : Terms) (s : List ℕ) (m : ℕ) (vals us eqs : List ℕ) (S : Settling t s m vals us eqs) (b : Bool) (e : List ℕ)
    (q : checked b e ≡ checking t.n s t.r t.coeffs t.words us m eqs) where
  abbrev n : ℕ
  n = t.n

  abbrev r : ℕ
  r = t.r

  abbrev c : ℕ
  c = t.coeffs

  abbrev w : ℕ
  w = t.words

  some : 0 < w
  some = omega (arith, S.constant)

  check-fits : check_fits n (length s) r c w (length us) m (length eqs) ≡ true
  unfolding check_fits spaced
  check-fits =
      and_i _ _ (recorded_when n (length s) S.small S.records)
      (and_i _ _ S.check
      (and_i _ _ (and_i _ _ (le-leb w widest S.narrow) (and_i _ _ (lt-ltb c w S.constant) (le-leb ((m + r) * w) (length eqs) S.rows_e))) (eq-eqb (length us) (2 ^ n * w) S.rows_u)))

  abbrev K : ℕ
  K = (m + r) * w

  -- the equations
  abbrev E : List Row
  E = rows w m eqs ++ check_of n s r c w us

  -- their words
  abbrev X : List ℕ
  X = take (m * w) eqs ++ flatten (check_of n s r c w us)

  words : flatten E ≡ X
  words = flatten_append (rows w m eqs) (check_of n s r c w us) ∙ ap {B = List ℕ} (λ x. x ++ flatten (check_of n s r c w us)) (flatten-rows w m eqs)

  wide : Wide w E
  wide = wide_append w (rows w m eqs) (check_of n s r c w us) (wide_rows w m eqs (omega (arith, S.rows_e, add-mul m r w))) (check-wide n s r c w us S.constant S.rows_u)

  many : length E ≡ m + r
  many = length-append (rows w m eqs) (check_of n s r c w us) ∙ ap₂ ◌+◌ (length-tab m (row w eqs)) (length-check n s r c w us S.constant S.rows_u)

  X-length : length X ≡ K
  X-length = ap length (sym words) ∙ length-flatten w E wide ∙ ap (λ (k : ℕ). k * w) many

  told : e ≡ X ++ drop K eqs
  told = check-tells n s r c w us m eqs check-fits b e q

  part : take K e ≡ X
  part = ap (take K) told ∙ take_at X (drop K eqs) K X-length

  behind : drop K e ≡ drop K eqs
  behind = ap (drop K) told ∙ drop_at X (drop K eqs) K X-length

  pub part_length : length (take K e) ≡ K
  part_length = ap length part ∙ X-length

  read : rows_of w (take K e) ≡ E
  read = rows_whole w (m + r) (take K e) some part_length ∙ ap₂ (rows w) (sym many) (part ∙ sym words) ∙ rows-flatten w E wide

  abbrev Z : Sys
  Z = solve c E (rows w (2 ^ n) vals)

  module _ (x v : List ℕ) (o : Option ℕ) (h : done x v o ≡ solved c w (take K e) vals) where
    fit : fits c w (take K e) vals ≡ true
    fit =
        all_fit c w (take K e) vals (λ (z : w ≡ 0). absurd (omega (arith, some))) (omega (arith, S.constant))
        (nothing-over w (length (take K e)) (all-rows w (m + r) (take K e) some part_length)) (nothing-over w (length vals) (all-rows w (2 ^ n) vals some S.rows_v))

    L : Left c w (take K e) vals x v o
    L = left c w (take K e) vals x v o fit h

    solved-is : solve c (rows_of w (take K e)) (rows_of w vals) ≡ Z
    solved-is = ap₂ (solve c) read (rows_whole w (2 ^ n) vals some S.rows_v)

    pub never_misfit : {A : Type 0} → o ≡ None → A
    never_misfit p = let k = L.rank_is in absurd (cc)

    pub last : (g k : ℕ) → o ≡ Some k → length x ≡ length (take K e) → length v ≡ length vals
        → leaves (Ok (record { g = g; m = m + r; rank = k })) v us (x ++ drop K e) ≡ settled t s (record { g = g; m = m }) vals us eqs
    last g k p lx lv =
        let i = L.rank_is in
        let rank : k ≡ (solve c (rows_of w (take K e)) (rows_of w vals)).rank = cc in
        let ev = words_of w (2 ^ n) v some (lv ∙ S.rows_v) Z.rest (L.rest_are ∙ ap (λ (z : Sys). z.rest) solved-is) in
        let ex = words_of w (m + r) x some (lx ∙ part_length) Z.eqs (L.eqs_are ∙ ap (λ (z : Sys). z.eqs) solved-is) in
        let er : k ≡ Z.rank = rank ∙ ap (λ (z : Sys). z.rank) solved-is in
        λ j. leaves (Ok (record { g = g; m = m + r; rank = er j })) (ev j) us (ex j ++ behind j)
