-- `pivot` is a step of the model: the rows before equation i, those after it, and the rest are swept by it.
use Rattle.std.proofs.Common.{◌<◌, ◌∙◌, arith, ℕ, get_or, rules}
use mir.Val.{Fits}
use mir.Syntax.{w64}
use lib.Seq.{length-take-le}
use Rattle.gf2.proofs.Highest.{few_zeros, lead_word}
use Rattle.gf2.proofs.Walk.{rows_behind}
use Rattle.gf2.proofs.Glue.{seen, step-none, step-some}
use Rattle.gf2.proofs.sweep.pivot.Goals as goal

pub returns-in_default : goal.returns-in_default
returns-in_default c n =
    let H = c.requires in
    let B = c.split_at_mut-before.ensures in
    let R = c.split_at_mut-row.ensures in
    step-none _ _ _ _ _ _ _ _ _ H.1 H.2 H.0 H.3 H.4 B.front B.back R.front R.back n c.in_default.ensures

pub overflow_sub-j : goal.overflow_sub-j
overflow_sub-j c =
    let H = c.requires in
    let R = c.split_at_mut-row.ensures in
    let K = c.in-Some.ensures in
    let k : c.in-Some.k < c.args.c = let n = length-take-le c.args.c c.split_at_mut-row.result.0.now (omega arith) in omega (arith, K.0) in
    let s = seen _ _ _ H.3 R.front_len c.in-Some.k k in
    few_zeros c.args.c _ c.in-Some.k k (omega (arith, K.1, s.1)) (c.type_inv.row c.in-Some.k).fits

pub sweep-requires-2 : goal.sweep-requires-2
sweep-requires-2 c =
    let H = c.requires in
    let B = c.split_at_mut-before.ensures in
    let R = c.split_at_mut-row.ensures in
    let n = rows_behind _ _ c.args.w H.0 in
    let K = c.in-Some.ensures in
    let k : c.in-Some.k < c.args.c = let n = length-take-le c.args.c c.split_at_mut-row.result.0.now (omega arith) in omega (arith, K.0) in
    (rw R.front_len (omega (arith, n, B.back_len, R.back_len)), omega arith, omega arith)

pub returns : goal.returns
returns c n =
    let H = c.requires in
    let B = c.split_at_mut-before.ensures in
    let R = c.split_at_mut-row.ensures in
    let K = c.in-Some.ensures in
    let k : c.in-Some.k < c.args.c = let n = length-take-le c.args.c c.split_at_mut-row.result.0.now (omega arith) in omega (arith, K.0) in
    let f : (i : ℕ) → Fits w64 (get_or c.split_at_mut-row.result.0.now i 0) = search rules in
    let p : 0 < get_or c.split_at_mut-row.result.0.now c.in-Some.k 0 = let s = seen _ _ _ H.3 R.front_len c.in-Some.k k in omega (arith, K.1, s.1) in
    step-some _ _ _ _ _ _ _ _ _ H.1 H.2 H.0 H.3 H.4 B.front B.back R.front R.back _ _ _ c.in-Some.k _ n
    (lead_word _ _ _ k p (f c.in-Some.k).fits (λ t h l. let s = seen _ _ _ H.3 R.front_len t l in s.1 ∙ K.2 t h s.0))
    (omega arith) c.sweep.ensures c.sweep-2.ensures c.sweep-3.ensures
