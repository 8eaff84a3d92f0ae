-- `put_lines` meets its contract: the index is opened and the tables are filled, then the lines of the index and those of the finds are
-- printed, in a slice that holds both.
use Rattle.std.proofs.Common.{◌≤◌, List, ℕ, length, replicate, arith}
use Rattle.std.proofs.lemmas.List.{length-replicate}
use Rattle.basics.specs.Placed.{writing_last}
use Rattle.laws.specs.JobSheet.AcceptedCalls.{Usable, usable_fits}
use Rattle.laws.specs.JobSheet.JobAnswering.{StringsGood, Prints, index_lines_fit, then_finds}
use Rattle.jobsheet.proofs.lines.put_lines.Goals as goal

prints :
    {cs ls xs fs ns out : List ℕ} → Usable cs ls xs → StringsGood fs ns → 700000 ≤ length out →
    Prints cs ls xs fs ns (replicate 2000 0) out
prints usable strings answer =
    record { usable = usable; strings = strings; positions = omega (arith, length-replicate {A = ℕ} 2000 0); answer = answer }

pub postings_of-postings-requires : goal.postings_of-postings-requires
postings_of-postings-requires c =
    let lent = rw c.unwrap-opened.ensures at c.open_index.ensures.lent in
    let directory = c.directory_of-directory.ensures in
    rw (directory.1, lent.2) (omega (arith, usable_fits c.requires.0))

pub put_index_lines-end-requires : goal.put_index_lines-end-requires
put_index_lines-end-requires c = (
  usable_fits c.requires.0,
  index_lines_fit (prints c.requires.0 c.args.job.searchable c.requires.1) (λ i. omega (arith, c.type_inv.index i)),
)

pub put_finds-requires-clause-lines_fit : goal.put_finds-requires-clause-lines_fit
put_finds-requires-clause-lines_fit c =
    let lent = rw c.unwrap-opened.ensures at c.open_index.ensures.lent in
    let directory = c.directory_of-directory.ensures in
    let finds =
    then_finds (prints c.requires.0 c.args.job.searchable c.requires.1) (λ i. omega (arith, c.type_inv.index i))
    c.put_index_lines-end.ensures in
    rw (c.postings_of-postings.ensures, directory.0, directory.1, lent.0, lent.1, lent.2) finds.room

pub returns : goal.returns
returns c =
    let lent = rw c.unwrap-opened.ensures at c.open_index.ensures.lent in
    let directory = c.directory_of-directory.ensures in
    let finds =
    then_finds (prints c.requires.0 c.args.job.searchable c.requires.1) (λ i. omega (arith, c.type_inv.index i))
    c.put_index_lines-end.ensures in
    writing_last _ finds
    (rw (c.postings_of-postings.ensures, directory.0, directory.1, lent.0, lent.1, lent.2) at c.put_finds.ensures)
