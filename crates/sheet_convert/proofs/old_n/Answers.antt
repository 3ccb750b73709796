use mathlib.Core.Path.{◌≡◌, sym, ap, ◌∙◌}
use Prim.Native.Nat.{ℕ, suc, ◌*◌}
use native.Mathlib.Omega.{arith}
use Rattle.meaning.specs.Limits.{old_layout, old_largest_n, old_record_bytes, old_mask_bytes}
use Rattle.sheet_convert.proofs.Widening.{size_fits, old-positions}
use Rattle.meaning.proofs.Sizing.{size-found, size-next, size_none}
use Rattle.sheet_convert.proofs.old_n.Goals as goal

pub overflow_mul-size : goal.overflow_mul-size
unfolding old_largest_n old_mask_bytes
overflow_mul-size c = let h = c.loop-n.auto.n-end in omega (arith, c.size.ensures, old-positions c.loop-n.n (omega arith), size_fits c.loop-n.n (omega arith))

pub returns-then-old-size : goal.returns-then-old-size
unfolding old_largest_n old_record_bytes old_mask_bytes
returns-then-old-size c =
    size-found old_layout c.args.old.now _ c.loop-n.invariant (omega arith) (c.if-old-size.true ∙ ap (λ (k : ℕ). k * old_record_bytes) (c.size.ensures ∙ old-positions _ (omega arith)))

pub loop-n-preserved : goal.loop-n-preserved
unfolding old_largest_n old_record_bytes old_mask_bytes
loop-n-preserved c =
    size-next old_layout c.args.old.now _ c.loop-n.invariant (omega arith) (λ e. c.if-old-size.false (e ∙ ap (λ (k : ℕ). k * old_record_bytes) (sym (c.size.ensures ∙ old-positions _ (omega arith)))))

pub returns : goal.returns
unfolding old_largest_n
returns c = let e : c.loop-n.n ≡ suc old_largest_n = omega arith in sym e ∙ size_none old_layout c.args.old.now _ c.loop-n.invariant c.loop-n-test.false
