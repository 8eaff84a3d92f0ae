-- `period_of` meets its contract: a string that starts with its own characters from `step` on equals itself, shifted by `step`.
use Rattle.std.proofs.Common.{◌≡◌, ◌-◌, ◌≤◌, ℕ, List, length, take, drop, get_or, sym, ap, ◌∙◌, arith, length-take-le, length-drop}
use Rattle.std.proofs.lemmas.Bool.Decides.{Decides-eqb}
use Rattle.std.proofs.lemmas.List.{get_or_append_left, get_or-take, get_or-drop}
use Rattle.std.proofs.lemmas.Slice.Eq.{starts_is}
use Rattle.reconstruction.proofs.matches.period_of.Goals as goal

pub returns-then-starts_with : goal.returns-then-starts_with
returns-then-starts_with c =
    let s = c.args.string.now in
    let d = c.args.step in
    let tail = take (length s - d) (drop d s) in
    let room : length s - d ≤ length (drop d s) = omega (arith, length-drop d s) in
    let long : length tail ≡ length s - d = rw length-take-le in
    let begins = (starts_is Decides-eqb s tail _ c.starts_with.ensures.value).0 c.if-starts_with.true in
    record {
      within = omega arith;
      equal =
          λ x b.
          sym (get_or-drop d s x 0)
          ∙ sym (get_or-take (length s - d) (drop d s) x 0 (omega arith))
          ∙ sym (get_or_append_left tail (drop (length tail) s) 0 x (omega arith))
          ∙ ap (λ (l : List ℕ). get_or l x 0) (sym begins);
    }
