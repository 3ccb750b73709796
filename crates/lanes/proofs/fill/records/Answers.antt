use Rattle.std.proofs.Common.{◌≡◌, refl, ap, ◌∙◌, ℕ, ◌*◌, ◌/◌, ◌<◌, ◌≤◌, ◌++◌, length, drop, rules, arith}
use lib.ListN.{drop_of_length-le}
use mathlib.Core.List.{append-nil}
use Rattle.std.proofs.Common.{List}
use Rattle.bits.specs.Rows.{row}
use Rattle.bits.proofs.Records.{put_record}
use Rattle.verdict.proofs.Cutting.{cut-row, cut-rest, cut-in, cut-end}
use mathlib.Core.List.{flatten}
use Rattle.lanes.specs.Lanes.{row_record}
use Rattle.lanes.specs.Inner.{record_rows}
use Rattle.lanes.proofs.Spelling.{record_long}
use Rattle.lanes.proofs.fill.records.Goals as goal

pub loop-j-init : goal.loop-j-init
unfolding flatten record_rows
loop-j-init c = (c.iter-x-items.ensures.size, search rules, omega arith, refl)

pub loop-j-preserved : goal.loop-j-preserved
unfolding record_rows
loop-j-preserved c =
    let V = c.args.vals in
    let L = c.loop-j in
    let s = c.in-Some.ensures.steps in
    let inv = L.invariant in
    let lt : L.j < length V.words.now / V.w = cut-in _ _ _ _ _ _ inv.1 s.1.0 (s.1.1 ∙ inv.0) V.some in
    let x = cut-row _ _ _ _ _ _ inv.1 s.1.0 (s.1.1 ∙ inv.0) in (
      s.0 ∙ inv.0,
      cut-rest _ _ _ _ _ _ inv.1 s.1.0 (s.1.1 ∙ inv.0),
      omega arith,
      put_record 64 (λ (k : ℕ). row_record V.c (row V.w V.words.now k)) (λ k. record_long V.c (row V.w V.words.now k)) c.args.out.now L.j _ _ inv.3 (c.record.ensures ∙ ap (row_record V.c) x),
    )

pub returns : goal.returns
returns c =
    let V = c.args.vals in
    let L = c.loop-j in
    let s = c.in-None.ensures.steps in
    let n : length V.words.now / V.w ≤ L.j = cut-end _ _ _ _ L.invariant.1 (omega (arith, s.1.0, L.invariant.0)) in
    let q : L.j ≡ length V.words.now / V.w = omega (arith, L.invariant.2) in
    L.invariant.3 ∙ ap (λ (k : ℕ). record_rows V.c V.w V.words.now k ++ drop (k * 64) c.args.out.now) q
    ∙ ap (λ (t : List ℕ). record_rows V.c V.w V.words.now (length V.words.now / V.w) ++ t) (drop_of_length-le c.args.out.now {i = length V.words.now / V.w * 64} (omega (arith, c.requires)))
    ∙ append-nil (record_rows V.c V.w V.words.now (length V.words.now / V.w))
