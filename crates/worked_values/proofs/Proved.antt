-- The table of worked values holds, by computation, by what the crates below computed, or by the files beside this one. Assumes nothing.
use mathlib.Core.Path.{refl}
use lib.Ieee.{of_bits, of_int, add, sub, mul, div, rem, lt, le, eq, is_nan, neg, to_unsigned}
use Rattle.sequences.specs.Pairs.{pairs}
use Rattle.sequences.specs.Folds.{some}
use Rattle.ieee754.specs.Sign.{absolute}
use Rattle.ieee754.specs.Remainder.{rem_euclid}
use Rattle.ieee754.specs.SquareRoot.{sqrt, round_root, root_digits}
use Rattle.elementary_sincos.proofs.WorkedValues.{sine_far, cosine_far}
use Rattle.elementary_arctangent.specs.SpecialCases.{special}
use Rattle.elementary_arctangent.specs.Steps.{atan2_of}
use Rattle.survey.specs.Survey.{not_a_number, clipped, signal, survey_of}
use Rattle.tracker_measurement.specs.Phase.{centred, wrapped}
use Rattle.estimate_snr.proofs.WorkedValues.{none_value, four_value}
use Rattle.estimate_esprit.proofs.WorkedValues.{nine_value}
use Rattle.estimate_dispersion.proofs.WorkedValues.{cancel_value}
use Rattle.channel_model.specs.Opening.{bad_rate, whole, decimated_rate}
use Rattle.worked_values.proofs.RatesAndFades.{refused_rate, accepted_rate, fade_steps_lem}
use Rattle.worked_values.proofs.PassListed.{pass_listed}
use Rattle.worked_values.specs.Table.{WorkedValues}

pub worked_values : WorkedValues
unfolding bad_rate whole decimated_rate sqrt round_root root_digits atan2_of special survey_of not_a_number clipped signal wrapped centred rem_euclid absolute pairs some of_bits of_int add sub mul div rem lt le eq is_nan neg to_unsigned
worked_values =
    record {
      rate_999 = λ s f r. refused_rate s (record { factor_is = f; rate_is = r }) refl;
      rate_1000 = λ s f r. accepted_rate s (record { factor_is = f; rate_is = r }) refl;
      rate_100000 = λ s f r. accepted_rate s (record { factor_is = f; rate_is = r }) refl;
      rate_100001 = λ s f r. refused_rate s (record { factor_is = f; rate_is = r }) refl;
      fade_at_40000 = λ s f r h. fade_steps_lem s (record { factor_is = f; rate_is = r }) h;
      fade_at_1000 = λ s f r h. fade_steps_lem s (record { factor_is = f; rate_is = r }) h;
      fade_at_100000 = λ s f r h. fade_steps_lem s (record { factor_is = f; rate_is = r }) h;
      root_of_2 = refl;
      atan2_left = refl;
      survey_clipped = refl;
      survey_signal = refl;
      survey_silent = refl;
      survey_empty = refl;
      survey_nan = refl;
      snr_four = four_value;
      snr_none = none_value;
      estimate_nine = nine_value;
      cancel_two_one = cancel_value;
      wrap_carrier = refl;
      wrap_bpsk = refl;
      wrap_qpsk = refl;
      wrap_nearer = refl;
      wrap_nearer_bpsk = refl;
      wrap_nearer_qpsk = refl;
      wrap_farther = refl;
      wrap_farther_bpsk = refl;
      wrap_farther_qpsk = refl;
      sine_far = sine_far;
      cosine_far = cosine_far;
      pass_listed = pass_listed;
    }
