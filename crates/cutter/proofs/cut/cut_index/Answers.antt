-- `cut_index` meets its contract: the call is refused, or the index, which is readable, is cut down for the replaced string, by its
-- directory.
use Rattle.std.specs.Prelude.{◌≡◌, cond, List, ℕ}
use Rattle.std.proofs.Math.Path.{sym}
use native.Mathlib.Omega.{arith}
use Rattle.spec.specs.Dictionary.{longest_text}
use Rattle.spec.specs.Calls.{string_wrong, index_refusal, string_refusal}
use Rattle.laws.specs.Dictionary.Refused.{refused_some}
use Rattle.laws.specs.Search.Sizing.{IsString, string_passes, own_len, own_string}
use Rattle.laws.specs.Window.Searching.{cut_refused, cut_says}
use Rattle.dictionary.specs.Passing.{passed_on}
use Rattle.directory.specs.Opening.{index_refused, string_tested}
use Rattle.cutter.proofs.cut.cut_index.Goals as goal

-- the call is not refused, and the string may be searched for
module _ (cs ls xs s : List ℕ) (index : 0 ≡ index_refusal longest_text cs ls xs)
    (string : ◌≡◌ {A = ℕ} 0 (cond (string_wrong s) 6 0)) where
  accepted : string_refusal longest_text cs ls xs s ≡ 0
  accepted = sym (string_tested longest_text cs ls xs s index string)

  is_string : IsString s
  is_string = (string_passes longest_text cs ls xs s accepted).1

pub returns-in_err-opened : goal.returns-in_err-opened
returns-in_err-opened c =
    let e = c.in_err-opened.field-0.0 in
    rw (passed_on _ e c.from_residual.ensures.1)
    (cut_refused _ _ _ _ _ _ (index_refused _ _ _ _ c.args.string.now e c.in_err-opened.ensures.number) (refused_some e))

pub returns-in_err-check_string : goal.returns-in_err-check_string
returns-in_err-check_string c =
    let e = c.in_err-check_string.field-0.0 in
    rw (passed_on _ e c.from_residual-in_err-check_string.ensures.1)
    (cut_refused _ _ _ _ _ _ (string_tested _ _ _ _ c.args.string.now c.in_ok-opened.ensures.number c.in_err-check_string.ensures)
    (refused_some e))

pub replaced_string-own-requires : goal.replaced_string-own-requires
replaced_string-own-requires c = (is_string _ _ _ _ c.in_ok-opened.ensures.number c.in_ok-check_string.ensures).short

pub slice_bounds-own-end : goal.slice_bounds-own-end
slice_bounds-own-end c =
    omega (arith, (is_string _ _ _ _ c.in_ok-opened.ensures.number c.in_ok-check_string.ensures).short)

pub slice_bounds-cut_lines-end : goal.slice_bounds-cut_lines-end
slice_bounds-cut_lines-end c = own_len _ _ c.replaced_string-own.ensures

pub cut_lines-requires : goal.cut_lines-requires
cut_lines-requires c =
    own_string _ _ c.replaced_string-own.ensures (is_string _ _ _ _ c.in_ok-opened.ensures.number c.in_ok-check_string.ensures)

pub returns : goal.returns
returns c =
    let lent = c.in_ok-opened.ensures.lent in
    let directory = c.directory_of-directory.ensures in
    cut_says _ _ _ _ _ (accepted _ _ _ _ c.in_ok-opened.ensures.number c.in_ok-check_string.ensures)
    (rw (directory.0, directory.1, c.replaced_string-own.ensures, lent.0, lent.1, lent.2) at c.cut_lines.ensures)
