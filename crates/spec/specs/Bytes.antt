-- The bytes of a quoted text. Assumes nothing: this is a definition.
use Rattle.std.specs.Prelude.{List, [], ◌∷◌, ℕ}
use Prim.Native.Char.{code}
use Prim.Native.String.{String, [] as empty, ◌∷◌ as ◌followed_by◌}

-- the codes of its characters: an ASCII character is one byte, its code
unfoldable pub bytes : String → List ℕ
bytes empty = []
bytes (c followed_by s) = code c ∷ bytes s
