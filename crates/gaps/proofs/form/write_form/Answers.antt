-- `write_form` meets its contract: the directory is copied, and the lists go through the part that begins after it.
use Rattle.std.proofs.Common.{◌≡◌, ◌+◌, ◌*◌, Bool, true, false, arith}
use Rattle.spec.specs.Index.{header, keys_of}
use Rattle.models.specs.Gaps.{write_as}
use Rattle.laws.specs.Gaps.GapLists.{length_gaps, length_sums}
use Rattle.laws.specs.Gaps.WithLists.{KeepsLength}
use Rattle.laws.specs.Gaps.GapParts.{form_written}
use Rattle.gaps.proofs.form.write_form.Goals as goal

keeps : (b : Bool) → KeepsLength (write_as b)
keeps true ps = length_sums 0 ps
keeps false ps = length_gaps 0 ps

pub returns : goal.returns
returns g c =
    let first_is : c.line_start-first.result ≡ header + 3 * keys_of c.args.index.now = omega arith in
    form_written {old = c.args.form.now}
    (record { fits = c.requires.0.fits; is = first_is; even = c.requires.1; copied = c.write_list.ensures }) (write_as g.F.ListForm.as_gaps)
    (keeps g.F.ListForm.as_gaps) c.write_lists.ensures
