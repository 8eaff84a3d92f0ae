-- `put_find` meets its contract: the search is accepted, and the positions that it wrote are printed.
use Rattle.std.proofs.Common.{◌≤◌, List, ℕ, length, sym, arith, length-take-le}
use Rattle.spec.specs.Replaced.{replaced}
use Rattle.spec.specs.Dictionary.{Lexicon}
use Rattle.spec.specs.Index.{n_of}
use Rattle.spec.specs.Search.{find}
use Rattle.laws.specs.Search.Sizing.{IsString}
use Rattle.laws.specs.Text.WidthFolding.{length_replaced}
use Rattle.laws.specs.JobSheet.PrintedBounds.{find_few}
use Rattle.jobsheet.specs.Accepted.{sized_ok, sized_taken}
use Rattle.jobsheet.proofs.finds.put_find.Goals as goal

-- the slice holds the positions found
enough : (lex : Lexicon) (xs s o : List ℕ) → IsString s → n_of xs ≤ length o → length (find lex xs (replaced s)) ≤ length o
enough lex xs s o string fits = omega (arith, find_few lex xs (replaced s) (omega (arith, length_replaced s)))

pub unwrap-count-requires : goal.unwrap-count-requires
unwrap-count-requires c =
    sized_ok _ _ _ (enough _ _ c.args.string.now c.args.found.now c.requires.is_string c.requires.positions_fit) _ c.search_tabled.ensures

pub slice_bounds-put_found_line-end : goal.slice_bounds-put_found_line-end
slice_bounds-put_found_line-end c =
    let fits = enough _ _ c.args.string.now c.args.found.now c.requires.is_string c.requires.positions_fit in
    (sized_taken _ _ _ fits c.unwrap-count.ensures c.search_tabled.ensures).room

pub slice_bounds-put_found_line-end-2 : goal.slice_bounds-put_found_line-end-2
slice_bounds-put_found_line-end-2 c =
    let fits = enough _ _ c.args.string.now c.args.found.now c.requires.is_string c.requires.positions_fit in
    sym (length-take-le _ _ (sized_taken _ _ _ fits c.unwrap-count.ensures c.search_tabled.ensures).room)

pub put_found_line-requires : goal.put_found_line-requires
put_found_line-requires c =
    let fits = enough _ _ c.args.string.now c.args.found.now c.requires.is_string c.requires.positions_fit in
    rw (sized_taken _ _ _ fits c.unwrap-count.ensures c.search_tabled.ensures).is c.requires.line_fits

pub returns : goal.returns
returns c =
    let fits = enough _ _ c.args.string.now c.args.found.now c.requires.is_string c.requires.positions_fit in
    let positions = sized_taken _ _ _ fits c.unwrap-count.ensures c.search_tabled.ensures in
    rw positions.is at c.put_found_line.ensures
