-- Lines that are block calls: whether the line agrees, and what becomes of the channel and of the window memory. Definitions only.
use Rattle.std.specs.Prelude.{ℕ, Bool, false, cond, ◌&&◌, List, [], ◌∷◌, ◌++◌, map, min, leb, length, take, drop, Float}
use Rattle.std.specs.Float.{binary32}
use Rattle.std.specs.Float.Ieee.{to_bits}
use Rattle.std.specs.List.{fold}
use Rattle.vectors.specs.Code.Words.{mixed, mixed32}
use Rattle.vectors.specs.Code.Lines.{number_at, float32_at, list_in, behind_list, is_rest}
use Rattle.channel_model.specs.declared.Answer.{Answer}
use Rattle.channel_model.specs.declared.Channel.{Channel}
use Rattle.channel_model.specs.Refusals.{BlockArgs}
use Rattle.channel_model.specs.Blocks.{Outcome, blocked}
use Rattle.channel_words.specs.Code.Answers.{answer_words}
use Rattle.channel_words.specs.Code.Arguments.{given_rule}
use Rattle.channel_words.specs.Code.Rules.{ruled_samples}
use Rattle.channel_vectors.specs.declared.state.State.{State}

-- a block call that is lent the first `size` numbers of the window memory, or all where it has fewer; those behind stay
unfoldable pub blocked_in : Channel → BlockArgs → ℕ → List Float → Outcome Channel
blocked_in c b size w =
    let n = min size (length w) in
    let o = blocked c b (take n w) in
    record { answer = o.answer; channel = o.channel; first = o.first; second = o.second; windows = o.windows ++ drop n w }

-- what a call leaves, as the code has it
abbrev pub left_by : Answer → State → List Float → List Float → Outcome Channel
left_by answer s first second = record { answer = answer; channel = s.channel; first = first; second = second; windows = s.windows }

-- one number for the window memory, which is 8,192 long
unfoldable pub window_mix : List Float → ℕ
window_mix w = fold mixed 0 (take 8192 w)

-- ---- the answer: of the call, and of the two lists and the window memory as it leaves them

-- of 6: what the call answers, both lists, one number for the window memory
unfoldable pub listed_words : Answer → List Float → List Float → ℕ → List ℕ
listed_words a first second mix = answer_words a ++ map (to_bits binary32) first ++ map (to_bits binary32) second ++ (mix ∷ [])

-- of 10: what the call answers, one number for each list, one for the window memory
unfoldable pub ruled_words : Answer → List Float → List Float → ℕ → List ℕ
ruled_words a first second mix = answer_words a ++ (fold mixed32 0 first ∷ fold mixed32 0 second ∷ mix ∷ [])

-- ---- the line: its flag, what it gives of two lists, the length of the lent window memory, and the answer. A line that is not taken leaves all as it is

-- 6 block: each list is its count and its values. Lists of up to 8,200 numbers are taken; over 8,192 every block is refused.
unfoldable pub listed_line : List ℕ → Channel → List Float → Bool × Channel × List Float
listed_line words c w =
    let one = drop 2 words in
    let two = behind_list one in
    let left = behind_list two in
    let o = blocked_in c (record { flag = number_at 1 words; first = list_in float32_at one; second = list_in float32_at two }) (number_at 0 left) w in
    cond (leb (number_at 0 one) 8200 && leb (number_at 0 two) 8200)
    (is_rest (listed_words o.answer o.first o.second (window_mix o.windows)) (drop 1 left), o.channel, o.windows)
    (false, c, w)

-- 10 block by a rule: of each list the count of its pairs and the rule's six numbers. Up to 4,096 pairs are taken.
unfoldable pub ruled_list : List ℕ → List Float
ruled_list words = ruled_samples (given_rule (drop 1 words)) (number_at 0 words)

unfoldable pub ruled_line : List ℕ → Channel → List Float → Bool × Channel × List Float
ruled_line words c w =
    let one = drop 2 words in
    let two = drop 7 one in
    let left = drop 7 two in
    let o = blocked_in c (record { flag = number_at 1 words; first = ruled_list one; second = ruled_list two }) (number_at 0 left) w in
    cond (leb (number_at 0 one) 4096 && leb (number_at 0 two) 4096)
    (is_rest (ruled_words o.answer o.first o.second (window_mix o.windows)) (drop 1 left), o.channel, o.windows)
    (false, c, w)
