-- `samples` meets its contract: one turn and the end. Assumes nothing.
use Rattle.std.proofs.Common.{◌≡◌, refl, sym, ap, ◌∙◌, ℕ, suc, ◌+◌, ◌-◌, ◌<◌, List, [], ◌∷◌, ◌++◌, append_assoc, length, take, set, add-one, arith}
use mathlib.Core.List.{append-nil}
use lib.ListN.{length-set}
use lib.Seq.{take-suc-set, take_all}
use lib.Ieee.{Float}
use Rattle.channel_words.specs.declared.rules.Rule.{Rule}
use Rattle.channel_words.specs.declared.rules.Turn.{Turn}
use Rattle.channel_words.specs.Code.Rules.{next_noise, next_turn, noisy, ruled_from, ruled_pairs}
use Rattle.channel_words.proofs.rules.Rule.samples.Goals as goal

-- one turn
turned : (r : Rule) (t : Turn) (l : List (List Float)) (k n : ℕ) {x y : ℕ} {a b : Float} {t' : Turn}
    → k < n → length l ≡ n → x ≡ next_noise t.x → a ≡ noisy r t.re x → y ≡ next_noise x → b ≡ noisy r t.im y → t' ≡ next_turn r t
    → take (k + 1) (set l k (a ∷ b ∷ [])) ++ ruled_from r t' (n - (k + 1)) ≡ take k l ++ ruled_from r t (n - k)
unfolding ruled_from
turned r t l k n {a = a} {b = b} {t' = t'} h len ex ea ey eb et =
    let e : n - k ≡ suc (n - (k + 1)) = omega arith in
    rw (e, add-one, take-suc-set l k (a ∷ b ∷ []) (omega arith), append_assoc) (ap (λ (z : List (List Float)). take k l ++ z) (cc))

pub loop-pair-init : goal.loop-pair-init
unfolding ruled_pairs
loop-pair-init c =
    let n = length c.args.list.now in
    let z : n - 0 ≡ n = omega arith in
    (rw z (ap (λ (t : Turn). ruled_from c.args.self t n) c.first_turn-t.ensures), refl)

pub loop-pair-preserved : goal.loop-pair-preserved
loop-pair-preserved c =
    let l = c.loop-pair in (
      turned _ l.t l.list l.pair-index (length c.args.list.now) (omega arith) l.invariant.1 c.next_noise-x.ensures c.noisy.ensures c.next_noise.ensures c.noisy-in-loop-pair.ensures c.next_turn-t.ensures
          ∙ l.invariant.0,
      simp length-set l.invariant.1,
    )

pub returns : goal.returns
unfolding ruled_from
returns c =
    let l = c.loop-pair in
    let z : length c.args.list.now - l.pair-index ≡ 0 = omega arith in
    sym (take_all l.pair-index l.list (omega arith)) ∙ sym (append-nil _) ∙ rw z at l.invariant.0
