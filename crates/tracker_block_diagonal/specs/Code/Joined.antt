-- The 36 numbers of two halves, and the six of a gain (the scope, module 3: the state's order). Definitions only.
use Rattle.std.specs.Prelude.{List, [], ◌∷◌, Float}
use Rattle.ieee754.specs.Binary64.{zero}
use Rattle.tracker_block_diagonal.specs.declared.half.Gain.{Gain}
use Rattle.tracker_block_diagonal.specs.declared.half.Halves.{Halves}

-- each half on its channel's rows and columns, and 0 for what the channels share
unfoldable pub joined : Halves → List Float
joined h =
    let a = h.first in
    let b = h.second in
    let o = zero in
    a.pp ∷ a.pf ∷ a.pc ∷ o ∷ o ∷ o
    ∷ a.fp ∷ a.ff ∷ a.fc ∷ o ∷ o ∷ o
    ∷ a.cp ∷ a.cf ∷ a.cc ∷ o ∷ o ∷ o
    ∷ o ∷ o ∷ o ∷ b.pp ∷ b.pf ∷ b.pc
    ∷ o ∷ o ∷ o ∷ b.fp ∷ b.ff ∷ b.fc
    ∷ o ∷ o ∷ o ∷ b.cp ∷ b.cf ∷ b.cc
    ∷ []

-- a gain of the first channel's states, and 0 for the second's
abbrev pub gains : Gain → List Float
gains k = k.p ∷ k.f ∷ k.c ∷ zero ∷ zero ∷ zero ∷ []
