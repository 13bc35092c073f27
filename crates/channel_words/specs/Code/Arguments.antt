-- What a call or a rule of samples is given, as the numbers that a line begins with. A switch is 0 or 1, a float its bits. Definitions only.
use Rattle.std.specs.Prelude.{ℕ, List}
use Rattle.vectors.specs.Code.Lines.{number_at, mark_at, float64_at}
use Rattle.channel_model.specs.declared.Settings.{Settings}
use Rattle.channel_model.specs.declared.Carriers.{Carriers}
use Rattle.channel_words.specs.declared.rules.Rule.{Rule}

-- rate, factor, modulation, adaptive, dual lock, bank, two frequencies, fade, ratio
unfoldable pub given_settings : List ℕ → Settings
given_settings w =
    record {
      rate = number_at 0 w;
      factor = number_at 1 w;
      modulation = number_at 2 w;
      adaptive = mark_at 3 w;
      dual_lock = mark_at 4 w;
      bank = mark_at 5 w;
      two = mark_at 6 w;
      fade = number_at 7 w;
      ratio = float64_at 8 w;
    }

-- the four carriers
unfoldable pub given_carriers : List ℕ → Carriers
given_carriers w = record { nominal = float64_at 0 w; target = float64_at 1 w; target2 = float64_at 2 w; frequency2 = float64_at 3 w }

-- re, im, cosine, sine, noise, seed
unfoldable pub given_rule : List ℕ → Rule
given_rule w = record { re = float64_at 0 w; im = float64_at 1 w; cos = float64_at 2 w; sin = float64_at 3 w; noise = float64_at 4 w; seed = number_at 5 w }
