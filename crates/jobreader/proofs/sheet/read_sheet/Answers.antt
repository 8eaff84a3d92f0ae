-- `read_sheet` meets its contract: the words, the text and the finds are read one after the other.
use Rattle.std.proofs.Common.{◌≡◌, refl, List, ℕ, Bool, true, false, ◌&&◌, MatchOption, sym}
use Rattle.std.specs.Bool.{then_some}
use Rattle.spec.specs.JobSheet.{word_head, text_head, find_head, in_form, in_counts}
use Rattle.laws.specs.JobSheet.WholeSheet.{SheetRead, stage_start, stage_room, words_read, texts_read, finds_read, sheet_read}
use Rattle.jobreader.specs.declared.sheet.Parts.{Parts}
use Rattle.jobreader.proofs.sheet.read_sheet.Goals as goal

pub read_forms-words-requires : goal.read_forms-words-requires
read_forms-words-requires c = (stage_room (stage_start c.requires) word_head, refl)

pub read_forms-texts-requires : goal.read_forms-texts-requires
read_forms-texts-requires c =
    let after_words = words_read c.requires c.read_forms-words.ensures in
    (stage_room after_words text_head, refl)

pub read_forms-finds-requires : goal.read_forms-finds-requires
read_forms-finds-requires c =
    let after_words = words_read c.requires c.read_forms-words.ensures in
    let after_texts = texts_read after_words c.read_forms-texts.ensures in
    (stage_room after_texts find_head, refl)

-- the parts are answered if form and counts are right
told :
    (s chars₀ lengths₀ chars lengths : List ℕ) (good : Bool) (p : Parts) →
    SheetRead s chars₀ lengths₀ good p.words p.dictionary p.text p.finds chars lengths →
    MatchOption (then_some good p) ((in_form s && in_counts s) ≡ false)
    (λ q. SheetRead s chars₀ lengths₀ true q.words q.dictionary q.text q.finds chars lengths)
told s chars₀ lengths₀ chars lengths true p r = r
told s chars₀ lengths₀ chars lengths false p r = sym r.tested

pub returns : goal.returns
returns c =
    let after_words = words_read c.requires c.read_forms-words.ensures in
    let after_texts = texts_read after_words c.read_forms-texts.ensures in
    let after_finds = finds_read after_texts c.read_forms-finds.ensures in
    rw c.then_some.ensures (told _ _ _ _ _ _ _ (sheet_read after_words after_texts after_finds))
