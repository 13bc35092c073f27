-- `Moments::of`: the pair that came is the next sample.
use Rattle.std.proofs.Common.{ℕ, pos, ◌∙◌, ◌/◌, ap, length, arith}
use lib.Ieee.{Float, binary32, binary64, of_int, mul}
use Rattle.sums.specs.Complex.{norm_sqr}
use Rattle.sums.proofs.Adding.{sum_start, sum_next}
use Rattle.sums.proofs.Numbers.{chunk_parts}
use Rattle.estimate_snr.proofs.EstimateCases.{mean_is}
use Rattle.estimate_snr.proofs.Moments.of.Goals as goal

pub loop-re-init : goal.loop-re-init
loop-re-init c = (sum_start _ _ _, sum_start _ _ _)

pub loop-re-preserved : goal.loop-re-preserved
loop-re-preserved c =
    let l = c.loop-re in
    let xs = c.args.samples.now in
    let e = c.from-power.ensures ∙ ap (norm_sqr binary32) (chunk_parts xs (length xs / 2) l.re-index c.as_chunks.ensures.front (omega arith)) in
    (sum_next _ _ _ _ l.invariant.0 e, sum_next _ _ _ _ l.invariant.1 (ap (λ (x : Float). mul binary64 x x) e))

pub returns : goal.returns
returns c =
    let l = c.loop-re in
    let e = c.u64_to_f64-n.ensures ∙ ap (λ (n : ℕ). of_int binary64 (pos n)) c.as_chunks.ensures.front_len in
    record { m2 = mean_is _ _ _ l.invariant.0 (omega arith) (omega arith) e; m4 = mean_is _ _ _ l.invariant.1 (omega arith) (omega arith) e }
