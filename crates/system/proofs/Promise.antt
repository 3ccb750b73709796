-- What the promise of `solve` comes to.
--     misfit, stopped, settling, solved_as         its cases, in the values that the code has by then
--     all_fit                     what fits together
--     never_misfit, over-tells    then the call is not a Misfit, and Over exactly where there are too many unknowns
--     Solution, solved-tells      what a caller has after Ok: the numbers are 01's, and the rows are those of the solver
--     rank_few                    the rank is at most g, where the placed rows have no coefficient from g on
--     solve_determined            any two results that the promise allows are equal
use mathlib.Core.Path.{◌≡◌, refl, sym, ap, ap₂, ◌∙◌}
use Prim.Native.Nat.{ℕ, zero, suc, ◌+◌, ◌-◌, ◌*◌, ◌^◌, ◌≤◌, ◌<◌}
use native.Mathlib.Omega.{arith}
use native.Mathlib.Nat.{add-mul, mul-le-mul_right}
use mathlib.Core.Bool.{Bool, true, false, ◌&&◌}
use mathlib.Core.List.{List, ◌++◌, flatten}
use lib.ListN.{length, take, drop, replicate, length-append}
use lib.Seq.{take_at, drop_at, drop-drop, length-take-le}
use lib.Dec.{ltb}
use Rattle.std.specs.Prelude.{Result, Ok, Err}
use borrow.Author.Tests.{lt-ltb, le-ltb, ltb-true, ltb-false, eq-eqb, le-leb}
use Rattle.bits.specs.Vectors.{pick, tab}
use Rattle.bits.specs.Rows.{Row, row, rows, rows_of}
use Rattle.bits.proofs.Tests.{and_i}
use Rattle.bits.proofs.RowLaws.{row_fit, length_part, flatten-rows, length-flatten, rows-flatten}
use Rattle.gf2.specs.Solve.{lead, Sys, sys, solve}
use Rattle.bits.proofs.RowXor.{has-⊻}
use Rattle.gf2.proofs.Calls.{solve-wide}
use Rattle.gf2.proofs.Solutions.{after-length, rest-length, rank_le}
use Rattle.meaning.specs.Limits.{largest_n, record_bytes}
use Rattle.meaning.specs.Sheet.{rule_at, rules}
use Rattle.meaning.specs.Open.{unknowns, equations}
use Rattle.model.specs.Model.{Out, checks}
use Rattle.model.specs.RowValues.{row_values, rows_out, rows_system}
use Rattle.model.proofs.Steps.{length-checks}
use Rattle.model.proofs.RowValues.{rows-wide, system-wide, rows-most, rows_next, rows_sizes, rows-equations}
use Rattle.verdict.specs.OffRows.{constant}
use Rattle.verdict.proofs.Lanes.{lane-within}
use Rattle.meaning.specs.Answers.{check_length}
use Rattle.sheet.proofs.Shapes.{shaped_when}
use Rattle.descent.specs.Descending.{widest, roomy, filled, descended, descending, written, found}
use Rattle.descent.specs.Descending as descent
use Rattle.descent.specs.declared.Found.{Found}
use Rattle.descent.specs.declared.Stop.{Stop}
use Rattle.descent.specs.declared.Stop.TheVariants.{Misfit, Over}
use Rattle.descent.proofs.Fitting.{fitting-true}
use Rattle.descent.proofs.Promise.{Told, done-tells}
use Rattle.system.specs.Solving.{spaced, fitting, Outcome, leaves, reduced, solving, Settling, settled}
use Rattle.system.specs.declared.Solved.{Solved}
use Rattle.system.specs.declared.Terms.{Terms}
use Rattle.system.proofs.Testing.{spaced-true}
use Rattle.system.proofs.LastStep.{rows_whole}

zeros : (a b : ℕ) → a ≡ b → ◌≡◌ {A = List ℕ} (replicate a 0) (replicate b 0)
zeros a b e = ap {B = List ℕ} (λ k. replicate k 0) e

drop-zeros : (a b : ℕ) → drop {A = ℕ} a (replicate b 0) ≡ replicate (b - a) 0
drop-zeros zero b = zeros b (b - 0) (omega arith)
drop-zeros (suc a) zero = zeros 0 (0 - suc a) (omega arith)
drop-zeros (suc a) (suc b) = drop-zeros a b ∙ zeros (b - a) (suc b - suc a) (omega arith)

-- ---- its cases

module _ (n r most c w : ℕ) (s d vals us eqs : List ℕ) where
  abbrev G : ℕ
  G = unknowns n (rules n s) d

  abbrev O : Out Row
  O = rows_out c w (rule_at s) n d (row w vals)

  abbrev E : List Row
  E = rows_system c w (rule_at s) n d (row w vals) r

  abbrev T₀ : Terms
  T₀ = record { n = n; r = r; most = most; coeffs = c; words = w }

  -- all but the room for the check's rows fits
  abbrev D : Bool
  D = descent.fitting n (length s) (length d) most c w (length vals) (length us) (length eqs)

  abbrev after : Outcome
  after = solving n r most c w s d vals us eqs

  pub misfit : spaced r w (length vals) (length eqs) ≡ false → leaves (Err Misfit) vals us eqs ≡ after
  unfolding solving fitting
  misfit h = rw h refl

  module _ (room : spaced r w (length vals) (length eqs) ≡ true) (a : Result Found Stop) (v u e : List ℕ) (q : descended a v u e ≡ descending n s d most c w vals us eqs) where
    -- the definition, where there is room
    at_room : after ≡ pick D (pick (ltb most G) (leaves (Err (Over G)) vals us eqs) (reduced n r c w s d vals G)) (leaves (Err Misfit) vals us eqs)
    unfolding solving fitting
    at_room = rw room refl

    abbrev given : Result Found Stop → descent.Outcome
    given x = descended x v u e

    pub stopped : (o : Stop) → a ≡ Err o → leaves (Err o) v u e ≡ after
    unfolding descending
    stopped o x = go D (ltb most G) (ap given (sym x) ∙ q) ∙ sym at_room
      where
        go : (b f : Bool) → given (Err o) ≡ pick b (pick f (descended (Err (Over G)) vals us eqs) (written (length eqs) G w (found n s d c w vals))) (descended (Err Misfit) vals us eqs)
            → leaves (Err o) v u e ≡ pick b (pick f (leaves (Err (Over G)) vals us eqs) (reduced n r c w s d vals G)) (leaves (Err Misfit) vals us eqs)
        go false f z =
            let y = ap (λ (y : descent.Outcome). y.answer) z in
            let k : o ≡ Misfit = cc in
            ap₂ (λ (i : Stop) (y : descent.Outcome). leaves (Err i) y.vals y.us y.eqs) k z
        go true true z =
            let y = ap (λ (y : descent.Outcome). y.answer) z in
            let k : o ≡ Over G = cc in
            ap₂ (λ (i : Stop) (y : descent.Outcome). leaves (Err i) y.vals y.us y.eqs) k z
        go true false z = let y = ap (λ (y : descent.Outcome). y.answer) z in absurd (cc)

    module _ (g m : ℕ) (x : a ≡ Ok (record { g = g; m = m })) (kv : length v ≡ length vals) (ku : length u ≡ length us) (ke : length e ≡ length eqs) where
      T : Told n s d most c w vals us eqs g m v u e
      T = done-tells n s d most c w vals us eqs g m v u e (ap given (sym x) ∙ q)

      long : length eqs ≡ 2 ^ n * w + r * w
      long = (spaced-true r w (length vals) (length eqs) room).1 ∙ ap (λ (k : ℕ). k + r * w) T.fit.rows_v

      few : m ≤ 2 ^ n
      few = omega (arith, T.many, rows-most c w (rule_at s) n d (row w vals))

      words : m * w ≤ 2 ^ n * w
      words = mul-le-mul_right w few

      pub settling : Settling T₀ s m v u e
      settling =
          record {
            small = T.fit.small;
            records = T.fit.records;
            check = (spaced-true r w (length vals) (length eqs) room).0;
            constant = T.fit.constant;
            narrow = T.fit.narrow;
            rows_v = kv ∙ T.fit.rows_v;
            rows_u = ku ∙ T.fit.rows_u;
            rows_e = omega (arith, add-mul m r w, words, long, ke);
          }

      -- zeros behind the equations
      tail : drop ((m + r) * w) e ≡ replicate ((2 ^ n + r - (m + r)) * w) 0
      tail =
          let F : List ℕ = flatten O.after.eqs in
          let R : List ℕ = replicate (length eqs - m * w) 0 in
          let l : length F ≡ m * w = ap length (ap flatten (sym T.rows_e) ∙ flatten-rows w m e) ∙ length-take-le (m * w) e (omega (arith, words, long, ke)) in
          let k : (m + r) * w ≡ m * w + r * w = add-mul m r w in
          let i : 2 ^ n ≡ m + (2 ^ n + r - (m + r)) = omega (arith, few) in
          let j : 2 ^ n * w ≡ m * w + (2 ^ n + r - (m + r)) * w = ap (λ (x : ℕ). x * w) i ∙ add-mul m (2 ^ n + r - (m + r)) w in
          ap₂ drop k T.all_e ∙ sym (drop-drop (r * w) (m * w) (F ++ R)) ∙ ap (drop (r * w)) (drop_at F R (m * w) l)
          ∙ drop-zeros (r * w) (length eqs - m * w) ∙ zeros (length eqs - m * w - r * w) ((2 ^ n + r - (m + r)) * w) (omega (arith, long))

      system-is : rows w m e ++ checks (row_values c w) r (rules n s) (rows w (2 ^ n) u) ≡ E
      unfolding rules
      system-is = ap₂ (λ (x y : List Row). x ++ checks (row_values c w) r (rules n s) y) T.rows_e T.rows_u

      reduced-is : settled T₀ s (record { g = g; m = m }) v u e ≡ reduced n r c w s d vals G
      reduced-is =
          let z : solve c (rows w m e ++ checks (row_values c w) r (rules n s) (rows w (2 ^ n) u)) (rows w (2 ^ n) v) ≡ solve c E O.block = ap₂ (solve c) system-is T.block in
          let y = tail ∙ ap {B = List ℕ} (λ k. replicate ((2 ^ n + r - (k + r)) * w) 0) T.many in
          λ i. leaves (Ok (record { g = T.unknown i; m = T.many i + r; rank = (z i).rank })) (flatten (z i).rest) (T.all_u i) (flatten (z i).eqs ++ y i)

      fits : D ≡ true
      unfolding descending
      fits = go D refl (ap given (sym x) ∙ q)
        where
          go : (b : Bool) → D ≡ b → given (Ok (record { g = g; m = m })) ≡ pick b (pick (ltb most G) (descended (Err (Over G)) vals us eqs) (written (length eqs) G w (found n s d c w vals))) (descended (Err Misfit) vals us eqs) → D ≡ true
          go true f z = f
          go false f z = let y = ap (λ (y : descent.Outcome). y.answer) z in absurd (cc)

      pub solved_as : (y : Outcome) → y ≡ settled T₀ s (record { g = g; m = m }) v u e → y ≡ after
      solved_as y z =
          z ∙ reduced-is
          ∙ sym (at_room ∙ rw (fits, le-ltb most G (omega (arith, T.unknown, T.few))) refl)

  -- ---- what a caller has

  pub all_fit : n ≤ largest_n → length s ≡ 2 ^ n * record_bytes → length d ≡ 2 ^ n → check_length r ≡ true → c < w → w ≤ widest → most ≤ 64 * c
      → length vals ≡ 2 ^ n * w → length us ≡ 2 ^ n * w → length eqs ≡ (2 ^ n + r) * w
      → fitting n (length s) (length d) r most c w (length vals) (length us) (length eqs) ≡ true
  unfolding fitting spaced descent.fitting roomy filled
  all_fit small long symbols check hw nw lo lv lu le =
      let e = add-mul (2 ^ n) r w in
      and_i _ _ (and_i _ _ check (and_i _ _ (le-leb w widest nw) (eq-eqb (length eqs) (length vals + r * w) (omega arith))))
      (and_i _ _ (shaped_when n (length s) (length d) small long symbols)
      (and_i _ _ (and_i _ _ (le-leb w widest nw) (and_i _ _ (lt-ltb c w hw) (le-leb most (64 * c) lo)))
      (and_i _ _ (eq-eqb (length vals) (2 ^ n * w) lv) (and_i _ _ (eq-eqb (length us) (2 ^ n * w) lu) (le-leb (2 ^ n * w) (length eqs) (omega arith))))))

  module _ (fit : fitting n (length s) (length d) r most c w (length vals) (length us) (length eqs) ≡ true) (a : Result Solved Stop) (v u e : List ℕ) (q : leaves a v u e ≡ after) where
    -- the definition, where all fits
    at_fit : leaves a v u e ≡ pick (ltb most G) (leaves (Err (Over G)) vals us eqs) (reduced n r c w s d vals G)
    unfolding solving
    at_fit = q ∙ ap (λ (b : Bool). pick b (pick (ltb most G) (leaves (Err (Over G)) vals us eqs) (reduced n r c w s d vals G)) (leaves (Err Misfit) vals us eqs)) fit

    pub never_misfit : {A : Type 0} → a ≡ Err Misfit → A
    never_misfit {A} x = go (ltb most G) (ap (λ (y : Result Solved Stop). leaves y v u e) (sym x) ∙ at_fit)
      where
        go : (b : Bool) → leaves (Err Misfit) v u e ≡ pick b (leaves (Err (Over G)) vals us eqs) (reduced n r c w s d vals G) → A
        go true z = let y = ap (λ (y : Outcome). y.answer) z in absurd (cc)
        go false z = let y = ap (λ (y : Outcome). y.answer) z in absurd (cc)

    pub over-tells : (g : ℕ) → a ≡ Err (Over g) → (g ≡ G) × (most < G) × (leaves a v u e ≡ leaves a vals us eqs)
    over-tells g x = go (ltb most G) refl (ap (λ (y : Result Solved Stop). leaves y v u e) (sym x) ∙ at_fit)
      where
        go : (b : Bool) → ltb most G ≡ b → leaves (Err (Over g)) v u e ≡ pick b (leaves (Err (Over G)) vals us eqs) (reduced n r c w s d vals G) → (g ≡ G) × (most < G) × (leaves a v u e ≡ leaves a vals us eqs)
        go true f z =
            let y = ap (λ (y : Outcome). y.answer) z in
            let k : g ≡ G = cc in
            (k, ltb-true most G f, ap (λ (y : Outcome). leaves a y.vals y.us y.eqs) z)
        go false f z = let y = ap (λ (y : Outcome). y.answer) z in absurd (cc)

  pub record Solution (g m rank : ℕ) (v u e : List ℕ) : Type 0 where
    pub symbols : length d ≡ 2 ^ n
    pub unknown : g ≡ G
    pub few : g ≤ most
    pub many : m ≡ equations n (rules n s) r d
    pub wide : c < w
    pub low : most ≤ 64 * c
    pub rows_v : length v ≡ 2 ^ n * w
    pub rows_e : length (take (m * w) e) ≡ m * w
    pub system : sys (rows_of w (take (m * w) e)) (rows_of w v) rank ≡ solve c E O.block

  module _ (g m rank : ℕ) (v u e : List ℕ) where
    abbrev Z : Sys
    Z = solve c E O.block

    -- the lists that the definition gives for Ok
    tells : D ≡ true → G ≤ most → leaves (Ok (record { g = g; m = m; rank = rank })) v u e ≡ reduced n r c w s d vals G → Solution g m rank v u e
    unfolding rules
    tells f h q =
        let (R, lo) = fitting-true n (length s) (length d) most c w (length vals) (length us) (length eqs) f in
        let some : 0 < w = omega (arith, R.constant) in
        let full : (j : ℕ) → j < length d → length (row w vals j) ≡ w = λ j p. let k = row_fit j (length d) w p in length_part vals (j * w) w (omega (arith, R.rows_v, ap (λ (i : ℕ). i * w) R.symbols)) in
        let a = ap (λ (y : Outcome). y.answer) q in
        let k : ◌≡◌ {A = Solved} (record { g = g; m = m; rank = rank }) (record { g = G; m = length O.after.eqs + r; rank = Z.rank }) = cc in
        let eg : g ≡ G = ap (λ (x : Solved). x.g) k in
        let em : m ≡ length O.after.eqs + r = ap (λ (x : Solved). x.m) k in
        let er : rank ≡ Z.rank = ap (λ (x : Solved). x.rank) k in
        let (we, wr) = solve-wide c w E O.block (system-wide c w (rule_at s) n d (row w vals) full r) (rows-wide c w (rule_at s) n d (row w vals) full).0 in
        let se = after-length c E O.block in
        let sr = rest-length c E O.block in
        let le : length Z.eqs ≡ m =
        se ∙ length-append O.after.eqs _ ∙ ap (λ (k : ℕ). length O.after.eqs + k) (length-checks (row_values c w) (rule_at s) r (tab (2 ^ n) (rule_at s)) O.after.us) ∙ sym em in
        let lr : length Z.rest ≡ 2 ^ n = sr ∙ (rows_sizes c w (rule_at s) n d (row w vals) R.symbols).0 in
        let ev : v ≡ flatten Z.rest = ap (λ (y : Outcome). y.vals) q in
        let lf : length (flatten Z.eqs) ≡ m * w = length-flatten w Z.eqs we ∙ ap (λ (k : ℕ). k * w) le in
        let ee : take (m * w) e ≡ flatten Z.eqs = ap (λ (y : Outcome). take (m * w) y.eqs) q ∙ take_at (flatten Z.eqs) _ (m * w) lf in
        let lv : length v ≡ 2 ^ n * w = ap length ev ∙ length-flatten w Z.rest wr ∙ ap (λ (k : ℕ). k * w) lr in
        let lt : length (take (m * w) e) ≡ m * w = ap length ee ∙ lf in
        let re : rows_of w (take (m * w) e) ≡ Z.eqs = rows_whole w m (take (m * w) e) some lt ∙ ap₂ (rows w) (sym le) ee ∙ rows-flatten w Z.eqs we in
        let rr : rows_of w v ≡ Z.rest = rows_whole w (2 ^ n) v some lv ∙ ap₂ (rows w) (sym lr) ev ∙ rows-flatten w Z.rest wr in
        record {
          symbols = R.symbols;
          unknown = eg;
          few = omega arith;
          many = em ∙ rows-equations c w (rule_at s) n d (row w vals) R.symbols r;
          wide = R.constant;
          low = lo;
          rows_v = lv;
          rows_e = lt;
          system = λ i. sys (re i) (rr i) (er i);
        }

    pub solved-tells : leaves (Ok (record { g = g; m = m; rank = rank })) v u e ≡ after → Solution g m rank v u e
    unfolding solving fitting
    solved-tells q = go (spaced r w (length vals) (length eqs)) D (ltb most G) refl refl q
      where
        go : (a f b : Bool) → D ≡ f → ltb most G ≡ b
            → leaves (Ok (record { g = g; m = m; rank = rank })) v u e ≡ pick (a && f) (pick b (leaves (Err (Over G)) vals us eqs) (reduced n r c w s d vals G)) (leaves (Err Misfit) vals us eqs) → Solution g m rank v u e
        go false f b x y z = let k = ap (λ (y : Outcome). y.answer) z in absurd (cc)
        go true false b x y z = let k = ap (λ (y : Outcome). y.answer) z in absurd (cc)
        go true true true x y z = let k = ap (λ (y : Outcome). y.answer) z in absurd (cc)
        go true true false x y z = tells x (ltb-false most G y) z

    pub rank_few : Solution g m rank v u e → ((j : ℕ) → j < length d → lead c (row w vals j) ≡ 0) → rank ≤ g
    unfolding rules
    rank_few S bare =
        let hg : g ≤ 64 * c = omega (arith, S.few, S.low) in
        let next : O.after.next ≤ g = omega (arith, rows_next c w (rule_at s) n d (row w vals) S.symbols, S.unknown) in
        let k = rank_le c E O.block (constant c) (has-⊻ (64 * c)) g hg ((lane-within c w g S.wide hg (rule_at s) n d (row w vals) next bare).1 r) in
        omega (arith, ap (λ (y : Sys). y.rank) S.system)

-- ---- one result

pub solve_determined : (a b : Result Solved Stop) (v u e v' u' e' : List ℕ) (meant : Outcome) → leaves a v u e ≡ meant → leaves b v' u' e' ≡ meant → (a ≡ b) × (v ≡ v') × (u ≡ u') × (e ≡ e')
solve_determined a b v u e v' u' e' meant p q =
    let s : leaves a v u e ≡ leaves b v' u' e' = p ∙ sym q in
    (ap (λ (o : Outcome). o.answer) s, ap (λ (o : Outcome). o.vals) s, ap (λ (o : Outcome). o.us) s, ap (λ (o : Outcome). o.eqs) s)
