-- A key by name, and its numbers in an index. Assumes nothing: these are definitions.
use Rattle.std.specs.Prelude.{◌≡◌, ℕ}
use Rattle.spec.specs.Words.{key}
use Rattle.layout.specs.declared.keys.Key.{Key}
use Rattle.layout.specs.declared.keys.Key.TheVariants.{Word, Lone}

-- its kind and value
abbrev pub key_of : Key → Rattle.spec.specs.Words.Key
key_of (Word number) = key 0 number
key_of (Lone character) = key 1 character

-- A line of this kind and value has this key: a word where the kind is 0, else a lone character. Where every kind is 0 or 1, these are
-- the key's own numbers.
abbrev pub Names : Key → (kind value : ℕ) → Type 0
Names (Word number) kind value = (kind ≡ 0) × (value ≡ number)
Names (Lone character) kind value = (kind ≡ 0 → ⊥) × (value ≡ character)
