-- Module 2: the tables of sine and cosine. There are 4 cells to 1; an entry is the f64 nearest to the Taylor sum at the cell's middle k / 4. Definitions only.
use Rattle.std.specs.Prelude.{ℕ, Float}
use Rattle.elementary_cells.specs.Cells.{nearest_to}
use Rattle.elementary_sincos_table.specs.Taylor.{sine_sum, cosine_sum}

unfoldable pub sine_entry : ℕ → Float
sine_entry k = nearest_to (sine_sum k 4)

unfoldable pub cosine_entry : ℕ → Float
cosine_entry k = nearest_to (cosine_sum k 4)
