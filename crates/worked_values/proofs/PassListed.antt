-- The pass text's example, line by line: what each line does to a run, and the list that comes of it. The window memory is any of the right length, so
-- that nothing computes with its numbers. Assumes nothing.
use Prim.Native.Nat.{ℕ}
use mathlib.Core.Path.{◌≡◌, refl, ap, ◌∙◌}
use mathlib.Core.List.{List, [], ◌∷◌, ◌++◌}
use Rattle.std.specs.Prelude.{Option, Some}
use lib.ListN.{length, replicate, length-replicate}
use lib.Ieee.{Float, of_bits, to_bits}
use Rattle.ieee754.specs.Binary64 as float
use Rattle.sequences.specs.Folds.{fold, every}
use Rattle.channel_model.specs.declared.Channel.{Channel}
use Rattle.channel_model.specs.Returns.{Returned}
use Rattle.channel_model.specs.Opening.{new_channel, refused_settings}
use Rattle.channel_model.specs.Answers.{answer_of}
use Rattle.channel_model.specs.Blocks.{Outcome, untouched, blocked}
use Rattle.pass_reader.specs.Bytes.{bytes, same, whole_line, onto, fields, line_fields}
use Rattle.pass_reader.specs.Numbers.{digit_value, is_digit, number_of, decimal_shape, decimal_of}
use Rattle.pass_reader.specs.Lines.{names, block_names, decimals, nine_values, values_line, samples_of, two_fields, flag_and_samples}
use Rattle.pass_writer.specs.declared.lines.Shown.{Shown}
use Rattle.pass_writer.specs.Digits.{glyph_of, digits, decimal_from, decimal_text, float_text}
use Rattle.pass_writer.specs.Lines.{names_text, line_of, block_text}
use Rattle.pass_stream.specs.Stream.{lines, rest}
use Rattle.pass_setup.specs.declared.pass.Stage.{Stage}
use Rattle.pass_setup.specs.declared.pass.Stage.TheVariants.{Names, Values, BlockNames, Blocks}
use Rattle.pass_setup.specs.Opening.{settings_of, carriers_of, readied}
use Rattle.pass_setup.specs.Judging.{counted, new_pass, line_taken, refused_or, values_judged, shown_of, block_taken, answered, block_judged, judged}
use Rattle.pass_setup.specs.Listing.{Run, further, input_ended, list_after, list_of}
use Rattle.pass_setup.specs.Code.Steps.{listed, closed}
use Rattle.worked_values.specs.PassList.{pass_text, pass_list}
use Rattle.worked_values.proofs.PassExample.{assigned_channel, pass_opens, pass_assigns, no_samples, channel1, channel2, channel3, block_1, block_2, block_3, line1, line2, line3, shown_1, shown_2, shown_3}

-- a run between two lines
abbrev run : Stage → ℕ → ℕ → Channel → List Float → List ℕ → Run
run stage line block c w list = record { pass = record { stage = stage; line = line; block = block; channel = c }; windows = w; list = list }

-- ---- the lines

values_text : List ℕ
values_text = bytes "40000 1 0 1 1 1 5 0 137500000\n"

the_lines : lines pass_text ≡ names ∷ values_text ∷ block_names ∷ bytes "0 -\n" ∷ bytes "1 -\n" ∷ bytes "3 -\n" ∷ []
unfolding pass_text values_text lines onto
the_lines = refl

no_rest : rest pass_text ≡ []
unfolding pass_text lines rest onto
no_rest = refl

-- ---- the first three

names_taken : (c : Channel) (w : List Float) (l : List ℕ) → further (run Names 0 0 c w l) names ≡ run Values 1 0 c w (l ++ [])
unfolding further judged same line_taken counted
names_taken c w l = refl

abbrev values : List ℕ
values = 40000 ∷ 1 ∷ 0 ∷ 1 ∷ 1 ∷ 1 ∷ 5 ∷ 0 ∷ 137500000 ∷ []

values_read : values_line values_text ≡ Some values
unfolding values_text values_line nine_values decimals line_fields fields onto whole_line decimal_of decimal_shape number_of every fold is_digit digit_value
values_read = refl

readied_is : readied values ≡ record { refusal = 0; channel = assigned_channel }
unfolding readied settings_of carriers_of
readied_is = rw pass_opens pass_assigns

values_taken : (c : Channel) (w : List Float) (l : List ℕ) → further (run Values 1 0 c w l) values_text ≡ run BlockNames 2 0 assigned_channel w (l ++ [])
unfolding further judged values_judged refused_or line_taken counted
values_taken c w l =
    let p = (run Values 1 0 c w l).pass in
    ap (λ (v : Option (List ℕ)). listed l (values_judged v p, w)) values_read
    ∙ ap (λ (o : Returned). listed l (refused_or o.refusal p (line_taken BlockNames o.channel p), w)) readied_is

block_names_taken : (c : Channel) (w : List Float) (l : List ℕ) → further (run BlockNames 2 0 c w l) block_names ≡ run Blocks 3 0 c w (l ++ [])
unfolding further judged same line_taken counted
block_names_taken c w l = refl

-- ---- a block's line

module _ (line block flag : ℕ) (text : List ℕ) (c d : Channel) (s : Shown) (w : List Float) (l : List ℕ) where
  block_taken_lem : flag_and_samples text ≡ Some (flag, []) → blocked c (no_samples flag) w ≡ untouched d (no_samples flag) w → shown_of (answer_of d) ≡ s
      → further (run Blocks line block c w l) text ≡ run Blocks (counted line) (counted block) d w (l ++ block_text (counted block) s)
  unfolding further judged block_judged answered untouched refused_or block_taken answer_of
  block_taken_lem read call shows =
      let p = (run Blocks line block c w l).pass in
      ap (λ (b : Option (ℕ × List Float)). listed l (block_judged b p w)) read
      ∙ ap (λ (o : Outcome Channel). listed l (answered o p)) call
      ∙ ap (λ (t : Shown). run Blocks (counted line) (counted block) d w (l ++ block_text (counted block) t)) shows

read_0 : flag_and_samples (bytes "0 -\n") ≡ Some (0, [])
unfolding flag_and_samples two_fields samples_of same line_fields fields onto whole_line decimal_of decimal_shape number_of every fold is_digit digit_value
read_0 = refl

read_1 : flag_and_samples (bytes "1 -\n") ≡ Some (1, [])
unfolding flag_and_samples two_fields samples_of same line_fields fields onto whole_line decimal_of decimal_shape number_of every fold is_digit digit_value
read_1 = refl

read_3 : flag_and_samples (bytes "3 -\n") ≡ Some (3, [])
unfolding flag_and_samples two_fields samples_of same line_fields fields onto whole_line decimal_of decimal_shape number_of every fold is_digit digit_value
read_3 = refl

-- ---- the whole text

-- one line more
on : {x r q : Run} (line : List ℕ) → x ≡ r → further r line ≡ q → further x line ≡ q
on line e h = ap (λ (r : Run). further r line) e ∙ h

-- the list after the lines; the first three add nothing
abbrev printed_list : List ℕ
printed_list = ((((((names_text ++ []) ++ []) ++ []) ++ block_text 1 line1) ++ block_text 2 line2) ++ block_text 3 line3)

-- the run after the lines
all_taken : (c : Channel) (w : List Float) → length w ≡ 8192
    → fold further (run Names 0 0 c w names_text) (names ∷ values_text ∷ block_names ∷ bytes "0 -\n" ∷ bytes "1 -\n" ∷ bytes "3 -\n" ∷ [])
    ≡ run Blocks 6 3 channel3 w printed_list
unfolding fold counted
all_taken c w size =
    let l3 = ((names_text ++ []) ++ []) ++ [] in
    let l4 = l3 ++ block_text 1 line1 in
    let l5 = l4 ++ block_text 2 line2 in
    let after2 = on values_text (names_taken c w names_text) (values_taken c w (names_text ++ [])) in
    let after3 = on block_names after2 (block_names_taken assigned_channel w ((names_text ++ []) ++ [])) in
    let after4 = on (bytes "0 -\n") after3 (block_taken_lem 3 0 0 (bytes "0 -\n") assigned_channel channel1 line1 w l3 read_0 (block_1 w size) shown_1) in
    let after5 = on (bytes "1 -\n") after4 (block_taken_lem 4 1 1 (bytes "1 -\n") channel1 channel2 line2 w l4 read_1 (block_2 w size) shown_2) in
    on (bytes "3 -\n") after5 (block_taken_lem 5 2 3 (bytes "3 -\n") channel2 channel3 line3 w l5 read_3 (block_3 w size) shown_3)

prints : printed_list ++ [] ≡ pass_list
unfolding pass_list block_text line_of decimal_text decimal_from glyph_of float_text digits to_bits of_bits
prints = refl

listed_from : (w : List Float) → length w ≡ 8192 → list_after (record { pass = new_pass; windows = w; list = names_text }) pass_text ≡ pass_list
unfolding list_after new_pass input_ended
listed_from w size =
    (λ i. closed (fold further (run Names 0 0 (new_channel refused_settings) w names_text) (the_lines i)) (no_rest i))
    ∙ ap (λ (r : Run). closed r []) (all_taken (new_channel refused_settings) w size) ∙ prints

pub pass_listed : list_of pass_text ≡ pass_list
unfolding list_of
pass_listed = listed_from (replicate 8192 float.zero) (length-replicate 8192 float.zero)
