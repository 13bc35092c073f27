-- Lines that look at no window memory: whether the line agrees, and what becomes of the channel. A line begins with its kind, at place 0; from place 1 on stand
-- what is given and then the Rust's answer, to the line's end. Definitions only.
use Rattle.std.specs.Prelude.{ℕ, Bool, ◌&&◌, List, [], ◌∷◌, map, drop}
use Rattle.std.specs.Float.{binary32}
use Rattle.std.specs.Float.Ieee.{to_bits}
use Rattle.vectors.specs.Code.Lines.{is_rest, ends_at}
use Rattle.channel_model.specs.declared.Channel.{Channel}
use Rattle.channel_model.specs.Opening.{opened}
use Rattle.channel_model.specs.Assigning.{assigned}
use Rattle.channel_model.specs.Releasing.{released}
use Rattle.channel_model.specs.Figures.{figures}
use Rattle.channel_words.specs.Code.Arguments.{given_settings, given_carriers}
use Rattle.channel_words.specs.Code.Built.{given_channel, is_whole, behind_channel}
use Rattle.channel_words.specs.Code.Standing.{standing_words}

-- 3 open: nine settings; the refusal
unfoldable pub open_line : List ℕ → Bool × Channel
open_line words = let r = opened (given_settings (drop 1 words)) in (is_rest (r.refusal ∷ []) (drop 10 words), r.channel)

-- 4 build: a channel as it is given, in which numbers that the line does not have are 0; no answer
unfoldable pub build_line : List ℕ → Bool × Channel
build_line words = let given = drop 1 words in (is_whole given && ends_at 0 (behind_channel given), given_channel given)

-- 5 assign: four carriers; the refusal
unfoldable pub assign_line : List ℕ → Channel → Bool × Channel
assign_line words c = let r = assigned c (given_carriers (drop 1 words)) in (is_rest (r.refusal ∷ []) (drop 5 words), r.channel)

-- 7 release: nothing; no answer
unfoldable pub release_line : List ℕ → Channel → Bool × Channel
release_line words c = (ends_at 1 words, released c)

-- 8 figures: nothing; twelve f32. The channel stays
unfoldable pub figures_line : List ℕ → Channel → Bool
figures_line words c = is_rest (map (to_bits binary32) (figures c)) (drop 1 words)

-- 9: nothing; the channel as it stands
unfoldable pub standing_line : List ℕ → Channel → Bool
standing_line words c = is_rest (standing_words c) (drop 1 words)
