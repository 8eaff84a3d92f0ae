-- `scan_replaced` meets its contract: the part after the tokens begins with the replaced text, which the scan reads there.
use Rattle.std.proofs.Common.{◌≡◌, List, ℕ, ◌++◌, ◌≤◌, ◌-◌, length, take, drop, append_assoc, length-take-le, take_at, drop_at, arith}
use Rattle.spec.specs.Calls.{in_front}
use Rattle.spec.specs.Replaced.{replaced}
use Rattle.laws.specs.Text.WidthFolding.{length_replaced}
use Rattle.builder.proofs.text.scan_replaced.Goals as goal

-- what is written over the start of the part after the first n numbers is there
behind :
    (n : ℕ) (work xs part old more : List ℕ) → n ≤ length work → length xs ≡ n → part ≡ in_front xs old →
    take n (drop n (take n work ++ (part ++ more))) ≡ xs
unfolding in_front
behind n work xs part old more room len put =
    rw (drop_at (take n work) (part ++ more) n (length-take-le n work room), put, append_assoc)
    (take_at xs (drop (length xs) old ++ more) n len)

pub returns : goal.returns
returns c =
    let text = c.args.text.now in
    let n = length text in
    let after = drop n c.args.work.now in
    let room = length c.args.work.now - n in
    rw (behind n c.args.work.now (replaced text) c.replace_as_numbers.new.numbers (take room after) (drop room after) (omega arith)
    (length_replaced text) c.replace_as_numbers.ensures) at c.scan.ensures.tokens
