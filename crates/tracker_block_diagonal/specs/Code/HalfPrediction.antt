-- Prediction of one half (the scope, module 3): F·P·Fᵀ + Q on a channel's phase, frequency and chirp, F·P first, and then the mean of it and its
-- transpose. Definitions only.
use Rattle.std.specs.Prelude.{Float}
use Rattle.ieee754.specs.Binary64.{plus, times, zero, half}
use Rattle.tracker_covariance.specs.declared.prediction.ProcessNoise.{ProcessNoise}
use Rattle.tracker_block_diagonal.specs.declared.half.Half.{Half}

-- F·P
abbrev pub moved_rows : Float → Half → Half
moved_rows dt h =
    let dt2 = times (times half dt) dt in
    record {
      pp = plus (plus h.pp (times dt h.fp)) (times dt2 h.cp);
      pf = plus (plus h.pf (times dt h.ff)) (times dt2 h.cf);
      pc = plus (plus h.pc (times dt h.fc)) (times dt2 h.cc);
      fp = plus h.fp (times dt h.cp);
      ff = plus h.ff (times dt h.cf);
      fc = plus h.fc (times dt h.cc);
      cp = h.cp;
      cf = h.cf;
      cc = h.cc;
    }

-- P·Fᵀ
abbrev pub moved_columns : Float → Half → Half
moved_columns dt h =
    let dt2 = times (times half dt) dt in
    record {
      pp = plus (plus h.pp (times dt h.pf)) (times dt2 h.pc);
      pf = plus h.pf (times dt h.pc);
      pc = h.pc;
      fp = plus (plus h.fp (times dt h.ff)) (times dt2 h.fc);
      ff = plus h.ff (times dt h.fc);
      fc = h.fc;
      cp = plus (plus h.cp (times dt h.cf)) (times dt2 h.cc);
      cf = plus h.cf (times dt h.cc);
      cc = h.cc;
    }

-- the mean of two entries
abbrev pub mean_of_two : Float → Float → Float
mean_of_two x y = times (plus x y) half

-- P + Q, and the mean of it and its transpose; each mean off the diagonal stands twice
abbrev pub half_mean : ProcessNoise → Half → Half
half_mean n h =
    let p = plus h.pp n.q_p in
    let f = plus h.ff n.q_f in
    let c = plus h.cc n.q_c in
    let pf = mean_of_two (plus h.pf zero) (plus h.fp zero) in
    let pc = mean_of_two (plus h.pc zero) (plus h.cp zero) in
    let fc = mean_of_two (plus h.fc zero) (plus h.cf zero) in
    record { pp = mean_of_two p p; pf = pf; pc = pc; fp = pf; ff = mean_of_two f f; fc = fc; cp = pc; cf = fc; cc = mean_of_two c c }
