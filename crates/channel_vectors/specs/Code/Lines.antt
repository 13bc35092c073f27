-- What a line does, by its kind (reference/README.md): whether it agrees, and what becomes of the channel and of the window memory. Definitions only.
use Rattle.std.specs.Prelude.{ℕ, Bool, false, cond, List, eqb, Float}
use Rattle.vectors.specs.Code.Lines.{number_at, float64_at, ends_at}
use Rattle.channel_model.specs.declared.Channel.{Channel}
use Rattle.channel_vectors.specs.Code.Memory.{cleared, filled, poked}
use Rattle.channel_vectors.specs.Code.Calls.{open_line, build_line, assign_line, release_line, figures_line, standing_line}
use Rattle.channel_vectors.specs.Code.Blocks.{listed_line, ruled_line}

-- A line that leaves the window memory
abbrev pub beside : List Float → Bool × Channel → Bool × Channel × List Float
beside w r = (r.0, r.1, w)

-- 0: zeros. 1: a start. 2: a place, and the number that is set there. These have no answer. A line of an unknown kind leaves all, and does not agree
unfoldable pub by_kind : ℕ → List ℕ → Channel → List Float → Bool × Channel × List Float
by_kind kind words c w =
    cond (eqb kind 0) (ends_at 1 words, c, cleared w)
    (cond (eqb kind 1) (ends_at 2 words, c, filled (number_at 1 words) w)
    (cond (eqb kind 2) (ends_at 3 words, c, poked (number_at 1 words) (float64_at 2 words) w)
    (cond (eqb kind 3) (beside w (open_line words))
    (cond (eqb kind 4) (beside w (build_line words))
    (cond (eqb kind 5) (beside w (assign_line words c))
    (cond (eqb kind 6) (listed_line words c w)
    (cond (eqb kind 7) (beside w (release_line words c))
    (cond (eqb kind 8) (figures_line words c, c, w)
    (cond (eqb kind 9) (standing_line words c, c, w)
    (cond (eqb kind 10) (ruled_line words c w)
    (false, c, w)))))))))))

unfoldable pub replayed : List ℕ → Channel → List Float → Bool × Channel × List Float
replayed words c w = by_kind (number_at 0 words) words c w
