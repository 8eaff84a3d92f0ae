use Rattle.std.proofs.Common.{List, ℕ, ◌≡◌, ◌+◌, ◌-◌, ◌<◌, ◌≤◌, length, get_or}
use Rattle.models.specs.WordStarts.{lengths_of}
use mathlib.Core.Path.{sym, ◌∙◌}
use native.Mathlib.Omega.{arith}
use Rattle.laws.specs.Dictionary.WordStarts.{starts_len}
use Rattle.laws.specs.Match.MatchTable.{Tables, few_words}
use Rattle.laws.specs.Match.WordChains.{single_start, single_none, single_stop, single_known, single_room, single_hit}
use Rattle.laws.specs.Match.WordChains.{SingleWalk, single_miss}
use Rattle.matching.proofs.longest.find_single.Goals as goal

-- the word that comes next on the chain is one of the dictionary's
here :
    {cs ws heads links : List ℕ} → Tables cs ws heads links → (ts : List ℕ) (q : ℕ) → {next i : ℕ} →
    SingleWalk cs ws links (get_or ts q 0) next → (1 ≤ next) × (i ≡ next - 1) → i < length (lengths_of ws)
here t ts q w is = omega (arith, is.0, is.1, single_known t ts q w (omega (arith, is.0)))

pub loop-number-init : goal.loop-number-init
loop-number-init c =
    rw (c.bucket_of_char-bucket.ensures.value, c.number_at-c.ensures.0)
    (single_start c.args.table.now.filled c.args.text.now c.args.at)

pub offset_bounds-table-number : goal.offset_bounds-table-number
offset_bounds-table-number c =
    let known = here c.args.table.now.filled c.args.text.now c.args.at c.loop-number.invariant c.in-Some.ensures in
    omega (arith, known, few_words c.args.table.now.words.started)

pub bounds-table-number : goal.bounds-table-number
bounds-table-number c =
    let known = here c.args.table.now.filled c.args.text.now c.args.at c.loop-number.invariant c.in-Some.ensures in
    omega (arith, known, starts_len c.args.table.now.words.started.words)

pub bounds-table-start : goal.bounds-table-start
bounds-table-start c =
    let is = c.in-Some.ensures in
    rw is.1 (single_room c.args.table.now.filled c.args.text.now c.args.at c.loop-number.invariant (omega (arith, is.0)))

pub returns-then-table-start : goal.returns-then-table-start
returns-then-table-start c =
    let is = c.in-Some.ensures in
    let next : c.in-Some.number + 1 ≡ c.loop-number.next = omega (arith, is.0, is.1) in
    rw next
    (single_hit c.args.table.now.filled c.args.text.now c.args.at c.loop-number.invariant (omega (arith, is.0))
    c.requires (rw is.1 at c.if-table-start.true ∙ c.number_at-c.ensures.0))

pub offset_bounds-table-number-in-Some : goal.offset_bounds-table-number-in-Some
offset_bounds-table-number-in-Some c =
    let known = here c.args.table.now.filled c.args.text.now c.args.at c.loop-number.invariant c.in-Some.ensures in
    omega (arith, known, few_words c.args.table.now.words.started)

pub bounds-table-number-in-Some : goal.bounds-table-number-in-Some
bounds-table-number-in-Some c =
    let known = here c.args.table.now.filled c.args.text.now c.args.at c.loop-number.invariant c.in-Some.ensures in
    omega (arith, known, c.args.table.now.filled.links_len)

pub loop-number-smaller : goal.loop-number-smaller
loop-number-smaller c =
    let is = c.in-Some.ensures in
    rw is.1 (single_stop c.args.table.now.filled c.args.text.now c.args.at c.loop-number.invariant (omega (arith, is.0))).falls

pub loop-number-preserved : goal.loop-number-preserved
loop-number-preserved c =
    let is = c.in-Some.ensures in
    rw is.1
    (single_miss c.args.table.now.filled c.args.text.now c.args.at c.loop-number.invariant (omega (arith, is.0))
    (λ same. c.if-table-start.false (rw is.1 (same ∙ sym c.number_at-c.ensures.0))))

pub returns : goal.returns
returns c =
    let end : c.loop-number.next ≡ 0 = omega (arith, c.in_default.ensures) in
    single_none c.args.table.now.filled c.args.text.now c.args.at (rw end at c.loop-number.invariant)
