-- `has_form_key` meets its contract. The invariant: no line from `line` on has a full-width form as its key.
use Rattle.laws.specs.Receive.FormKeys.{WithoutForms}
use Rattle.receiver.proofs.form_keys.has_form_key.Given as goal

abbrev pub invariant-loop-line : goal.invariant-loop-line
invariant-loop-line l = WithoutForms l.index l.line
