-- A prediction of two halves, by blocks: between the channels every entry stays +0, and each half goes its own way.
use mathlib.Core.Path.{◌≡◌, refl, ap, ◌∙◌}
use mathlib.Core.Bool.{true}
use lib.Ieee.{Float, binary64, add, mul, of_bits, round}
use lib.Ieee.Scale.{finite}
use Rattle.ieee754_rounding.proofs.Commutation.{add_commutes}
use Rattle.ieee754.specs.Binary64.{plus, times, zero, half}
use Rattle.tracker_covariance.specs.Transition.{by_f, by_ft}
use Rattle.tracker_covariance.specs.ProcessNoise.{noise_table, noise_matrix}
use Rattle.tracker_covariance.specs.Prediction.{sum_of, mean_of, predicted}
use Rattle.tracker_covariance.specs.declared.prediction.ProcessNoise.{ProcessNoise}
use Rattle.sequences.proofs.Choices.{cond_yes}
use Rattle.tracker_block_diagonal.specs.declared.half.Half.{Half}
use Rattle.tracker_block_diagonal.specs.Code.Steady.{Steady}
use Rattle.tracker_block_diagonal.specs.Code.HalfPrediction.{moved_rows, moved_columns, mean_of_two, half_mean}
use Rattle.tracker_block_diagonal.proofs.Zeros.{by_zero, plus_a_zero}
use Rattle.tracker_block_diagonal.proofs.Blocks.{blocks, alike, with_noise, means, by_f_blocks, by_ft_blocks, sum_blocks, mean_blocks}

-- ---- what the channels share

module _ (dt : Float) (h : finite dt ≡ true) (g : finite (times (times half dt) dt) ≡ true) where
  once : plus zero (times dt zero) ≡ zero
  once = plus_a_zero (by_zero dt h)

  twice : plus (plus zero (times dt zero)) (times (times (times half dt) dt) zero) ≡ zero
  twice = ap (λ (x : Float). plus x (times (times (times half dt) dt) zero)) once ∙ plus_a_zero (by_zero (times (times half dt) dt) g)

  rows_zero : moved_rows dt (alike zero) ≡ alike zero
  rows_zero =
      λ j.
      record {
        pp = twice j;
        pf = twice j;
        pc = twice j;
        fp = once j;
        ff = once j;
        fc = once j;
        cp = zero;
        cf = zero;
        cc = zero;
      }

  columns_zero : moved_columns dt (alike zero) ≡ alike zero
  columns_zero =
      λ j.
      record {
        pp = twice j;
        pf = once j;
        pc = zero;
        fp = twice j;
        ff = once j;
        fc = zero;
        cp = twice j;
        cf = once j;
        cc = zero;
      }

  moved : (a d : Half) → by_ft dt (by_f dt (blocks a (alike zero) (alike zero) d))
      ≡ blocks (moved_columns dt (moved_rows dt a)) (alike zero) (alike zero) (moved_columns dt (moved_rows dt d))
  moved a d =
      ap (by_ft dt) (by_f_blocks dt a (alike zero) (alike zero) d ∙ (λ j. blocks (moved_rows dt a) (rows_zero j) (rows_zero j) (moved_rows dt d)))
      ∙ by_ft_blocks dt (moved_rows dt a) (alike zero) (alike zero) (moved_rows dt d)
      ∙ (λ j. blocks (moved_columns dt (moved_rows dt a)) (columns_zero j) (columns_zero j) (moved_columns dt (moved_rows dt d)))

no_noise : plus zero zero ≡ zero
unfolding of_bits add round
no_noise = refl

no_mean : mean_of_two zero zero ≡ zero
unfolding of_bits add mul round
no_mean = refl

-- ---- one half

-- a sum is the same in either order
settles : (n : ProcessNoise) (h : Half) → means (with_noise n h) (with_noise n h) ≡ half_mean n h
settles n h =
    let swap : (x y : Float) → mean_of_two x y ≡ mean_of_two y x = λ x y. ap (λ (s : Float). times s half) (add_commutes binary64 x y) in
    let k = with_noise n h in
    λ j.
    record {
      pp = mean_of_two k.pp k.pp;
      pf = mean_of_two k.pf k.fp;
      pc = mean_of_two k.pc k.cp;
      fp = swap k.fp k.pf j;
      ff = mean_of_two k.ff k.ff;
      fc = mean_of_two k.fc k.cf;
      cp = swap k.cp k.pc j;
      cf = swap k.cf k.fc j;
      cc = mean_of_two k.cc k.cc;
    }

-- ---- both

pub predicted_blocks : (dt : Float) (n : ProcessNoise) (a d : Half) → Steady dt n.ratio
    → predicted dt n (blocks a (alike zero) (alike zero) d)
    ≡ blocks (half_mean n (moved_columns dt (moved_rows dt a))) (alike zero) (alike zero) (half_mean n (moved_columns dt (moved_rows dt d)))
unfolding predicted noise_matrix
predicted_blocks dt n a d s =
    let m = moved_columns dt (moved_rows dt a) in
    let l = moved_columns dt (moved_rows dt d) in
    let q : noise_matrix n ≡ noise_table n.q_p n.q_f n.q_c n.q_f n.q_c zero zero = cond_yes _ _ s.same in
    ap mean_of
    ((λ j. sum_of (moved dt s.interval s.half_square a d j) (q j))
    ∙ sum_blocks n m (alike zero) (alike zero) l
    ∙ (λ j. blocks (with_noise n m) (alike (no_noise j)) (alike (no_noise j)) (with_noise n l)))
    ∙ mean_blocks (with_noise n m) (alike zero) (alike zero) (with_noise n l)
    ∙ (λ j. blocks (settles n m j) (alike (no_mean j)) (alike (no_mean j)) (settles n l j))
