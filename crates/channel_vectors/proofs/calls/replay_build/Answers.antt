-- `replay_build` meets its contract: a line agrees where it is whole and its channel ends it. Assumes nothing.
use Rattle.std.proofs.Common.{◌≡◌, ◌∙◌, sym, ap, refl, ℕ, List, [], ◌∷◌, Bor, true, false, ◌&&◌, rules}
use Rattle.std.specs.Prelude.{Option, Some, None, MatchOption}
use Rattle.vectors.specs.Code.Lines.{left_of, is_end, ends_at}
use Rattle.channel_words.specs.Code.Built.{given_channel, is_whole, behind_channel}
use Rattle.channel_vectors.specs.Code.Calls.{build_line}
use Rattle.channel_vectors.proofs.calls.replay_build.Goals as goal

nothing_left : (ws : List ℕ) → is_end (Some ws) ≡ ends_at 0 ws
unfolding is_end ends_at
nothing_left [] = refl
nothing_left (w ∷ ws) = search rules

-- whether what is left is nothing, by what is said of it
end_is : (w : List ℕ) (o : Option (Bor (List ℕ))) → MatchOption o (is_whole w ≡ false) (λ l. (is_whole w ≡ true) × (l.now ≡ behind_channel w))
    → is_end (left_of o) ≡ (is_whole w && ends_at 0 (behind_channel w))
end_is w None h = unfold is_end in sym (ap (λ b. b && ends_at 0 (behind_channel w)) h)
end_is w (Some l) h = nothing_left l.now ∙ ap (ends_at 0) h.1 ∙ sym (ap (λ b. b && ends_at 0 (behind_channel w)) h.0)

pub returns : goal.returns
unfolding build_line
returns c =
    let w = c.rest.result.now in
    let e = c.is_end.ensures ∙ end_is w c.channel_in.result.1 c.channel_in.ensures.left in
    λ j. ((e ∙ ap (λ v. is_whole v && ends_at 0 (behind_channel v)) c.rest.ensures) j, (c.channel_in.ensures.channel ∙ ap given_channel c.rest.ensures) j)
