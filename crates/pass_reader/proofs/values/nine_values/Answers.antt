-- `pass_reader::values::nine_values` meets its contract. Field by field: each is taken, or is missing, which ends it. `search` with these laws does not find the answers, nor does `using` on the function.
use Rattle.std.proofs.Common.{rules, sym, ◌∙◌}
use Rattle.pass_reader.proofs.ValuesLaws.{nine_taken, nine_missing, decimal_past, decimal_taken, decimal_missing, switch_past, switch_taken, switch_missing, too_many, all_taken}
use Rattle.pass_reader.proofs.values.nine_values.Goals as goal

pub returns-in_err-decimal : goal.returns-in_err-decimal
returns-in_err-decimal c =
    nine_missing c.args.s.now (search rules) (decimal_missing _ _ c.decimal.ensures c.in_err-decimal.was)

pub returns-in_err-decimal-2 : goal.returns-in_err-decimal-2
returns-in_err-decimal-2 c =
    nine_missing c.args.s.now (search rules) (decimal_past _ _ c.decimal.ensures c.in_ok-decimal.was (decimal_missing _ _ c.decimal-2.ensures c.in_err-decimal-2.was))

pub returns-in_err-decimal-3 : goal.returns-in_err-decimal-3
returns-in_err-decimal-3 c =
    nine_missing c.args.s.now (search rules)
    (decimal_past _ _ c.decimal.ensures c.in_ok-decimal.was (decimal_past _ _ c.decimal-2.ensures c.in_ok-decimal-2.was
    (decimal_missing _ _ c.decimal-3.ensures c.in_err-decimal-3.was)))

pub returns-in_err-switch : goal.returns-in_err-switch
returns-in_err-switch c =
    nine_missing c.args.s.now (search rules)
    (decimal_past _ _ c.decimal.ensures c.in_ok-decimal.was (decimal_past _ _ c.decimal-2.ensures c.in_ok-decimal-2.was
    (decimal_past _ _ c.decimal-3.ensures c.in_ok-decimal-3.was (switch_missing _ _ c.switch.ensures c.in_err-switch.was))))

pub returns-in_err-switch-2 : goal.returns-in_err-switch-2
returns-in_err-switch-2 c =
    nine_missing c.args.s.now (search rules)
    (decimal_past _ _ c.decimal.ensures c.in_ok-decimal.was (decimal_past _ _ c.decimal-2.ensures c.in_ok-decimal-2.was
    (decimal_past _ _ c.decimal-3.ensures c.in_ok-decimal-3.was (switch_past _ _ c.switch.ensures c.in_ok-switch.was
    (switch_missing _ _ c.switch-2.ensures c.in_err-switch-2.was)))))

pub returns-in_err-switch-3 : goal.returns-in_err-switch-3
returns-in_err-switch-3 c =
    nine_missing c.args.s.now (search rules)
    (decimal_past _ _ c.decimal.ensures c.in_ok-decimal.was (decimal_past _ _ c.decimal-2.ensures c.in_ok-decimal-2.was
    (decimal_past _ _ c.decimal-3.ensures c.in_ok-decimal-3.was (switch_past _ _ c.switch.ensures c.in_ok-switch.was
    (switch_past _ _ c.switch-2.ensures c.in_ok-switch-2.was (switch_missing _ _ c.switch-3.ensures c.in_err-switch-3.was))))))

pub returns-in_err-decimal-4 : goal.returns-in_err-decimal-4
returns-in_err-decimal-4 c =
    nine_missing c.args.s.now (search rules)
    (decimal_past _ _ c.decimal.ensures c.in_ok-decimal.was (decimal_past _ _ c.decimal-2.ensures c.in_ok-decimal-2.was
    (decimal_past _ _ c.decimal-3.ensures c.in_ok-decimal-3.was (switch_past _ _ c.switch.ensures c.in_ok-switch.was
    (switch_past _ _ c.switch-2.ensures c.in_ok-switch-2.was (switch_past _ _ c.switch-3.ensures c.in_ok-switch-3.was
    (decimal_missing _ _ c.decimal-4.ensures c.in_err-decimal-4.was)))))))

pub returns-in_err-decimal-5 : goal.returns-in_err-decimal-5
returns-in_err-decimal-5 c =
    nine_missing c.args.s.now (search rules)
    (decimal_past _ _ c.decimal.ensures c.in_ok-decimal.was (decimal_past _ _ c.decimal-2.ensures c.in_ok-decimal-2.was
    (decimal_past _ _ c.decimal-3.ensures c.in_ok-decimal-3.was (switch_past _ _ c.switch.ensures c.in_ok-switch.was
    (switch_past _ _ c.switch-2.ensures c.in_ok-switch-2.was (switch_past _ _ c.switch-3.ensures c.in_ok-switch-3.was
    (decimal_past _ _ c.decimal-4.ensures c.in_ok-decimal-4.was (decimal_missing _ _ c.decimal-5.ensures c.in_err-decimal-5.was))))))))

pub returns-in_err-decimal-6 : goal.returns-in_err-decimal-6
returns-in_err-decimal-6 c =
    nine_missing c.args.s.now (search rules)
    (decimal_past _ _ c.decimal.ensures c.in_ok-decimal.was (decimal_past _ _ c.decimal-2.ensures c.in_ok-decimal-2.was
    (decimal_past _ _ c.decimal-3.ensures c.in_ok-decimal-3.was (switch_past _ _ c.switch.ensures c.in_ok-switch.was
    (switch_past _ _ c.switch-2.ensures c.in_ok-switch-2.was (switch_past _ _ c.switch-3.ensures c.in_ok-switch-3.was
    (decimal_past _ _ c.decimal-4.ensures c.in_ok-decimal-4.was (decimal_past _ _ c.decimal-5.ensures c.in_ok-decimal-5.was
    (decimal_missing _ _ c.decimal-6.ensures c.in_err-decimal-6.was)))))))))

pub returns-then-is_some : goal.returns-then-is_some
returns-then-is_some c =
    nine_taken c.args.s.now
    (decimal_past _ _ c.decimal.ensures c.in_ok-decimal.was (decimal_past _ _ c.decimal-2.ensures c.in_ok-decimal-2.was
    (decimal_past _ _ c.decimal-3.ensures c.in_ok-decimal-3.was (switch_past _ _ c.switch.ensures c.in_ok-switch.was
    (switch_past _ _ c.switch-2.ensures c.in_ok-switch-2.was (switch_past _ _ c.switch-3.ensures c.in_ok-switch-3.was
    (decimal_past _ _ c.decimal-4.ensures c.in_ok-decimal-4.was (decimal_past _ _ c.decimal-5.ensures c.in_ok-decimal-5.was
    (decimal_past _ _ c.decimal-6.ensures c.in_ok-decimal-6.was (too_many _ (sym c.is_some.ensures ∙ c.if-is_some.true)))))))))))

pub returns : goal.returns
returns c =
    nine_taken c.args.s.now
    (decimal_taken _ _ c.decimal.ensures c.in_ok-decimal.was (decimal_taken _ _ c.decimal-2.ensures c.in_ok-decimal-2.was
    (decimal_taken _ _ c.decimal-3.ensures c.in_ok-decimal-3.was (switch_taken _ _ c.switch.ensures c.in_ok-switch.was
    (switch_taken _ _ c.switch-2.ensures c.in_ok-switch-2.was (switch_taken _ _ c.switch-3.ensures c.in_ok-switch-3.was
    (decimal_taken _ _ c.decimal-4.ensures c.in_ok-decimal-4.was (decimal_taken _ _ c.decimal-5.ensures c.in_ok-decimal-5.was
    (decimal_taken _ _ c.decimal-6.ensures c.in_ok-decimal-6.was (all_taken _ (sym c.is_some.ensures ∙ c.if-is_some.false)))))))))))
