-- `next` meets its contract: line `number` is in the directory, and its positions start at `at`.
use Rattle.std.proofs.Common.{refl, ◌<◌, arith}
use Rattle.spec.specs.Index.{keys_of}
use Rattle.laws.specs.Numbers.DirectoryWalk.{IsLine, counts_next, line_within, is_line}
use Rattle.layout.specs.Lists.{posting_list}
use Rattle.layout.proofs.lines.LinesIterator.next.Goals as goal
use Rattle.layout.proofs.lines.LinesIterator.next.Goals.{After-next_line-line}

here :
    (c : After-next_line-line) → let self = c.args.self.now in let line = c.next_line-line.result in
    IsLine self.index.now self.number line.kind line.value line.from line.to
here c =
    let self = c.args.self.now in
    let below : self.number < keys_of self.index.now = omega (arith, self.keys_is, self.within, c.if-self.false) in
    is_line self.fits below self.at_is c.next_line-line.ensures

pub next_line-line-requires : goal.next_line-line-requires
next_line-line-requires c =
    let self = c.args.self.now in
    let below : self.number < keys_of self.index.now = omega (arith, self.keys_is, self.within, c.if-self.false) in
    line_within self.fits below self.at_is

pub offset_bounds-self-line : goal.offset_bounds-self-line
offset_bounds-self-line c = omega (arith, here (goal.at.offset_bounds-self-line c).After-next_line-line)

pub slice_bounds-list-end : goal.slice_bounds-list-end
slice_bounds-list-end c = omega (arith, here (goal.at.slice_bounds-list-end c).After-next_line-line)

pub invariant_of-self : goal.invariant_of-self
invariant_of-self c =
    let self = c.args.self.now in
    let line = here (goal.at.invariant_of-self c).After-next_line-line in
    record {
      fits = self.fits;
      keys_is = self.keys_is;
      keys_small = self.keys_small;
      within = omega (arith, self.keys_is, line.below);
      at_is = omega (arith, line.line, counts_next self.number self.index.now);
    }

pub returns-clause-steps : goal.returns-clause-steps
returns-clause-steps c = (posting_list (here (goal.at.returns-clause-steps c).After-next_line-line) c.new.ensures, refl, refl, refl)
