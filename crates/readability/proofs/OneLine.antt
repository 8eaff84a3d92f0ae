-- What a walk over the lines reads of one of them, from the contracts of what reads it.
use Rattle.std.proofs.Common.{◌≡◌, ◌<◌, ℕ, List}
use Rattle.spec.specs.Index.{n_of, keys_of}
use Rattle.laws.specs.Numbers.DirectoryWalk.{LineAt}
use Rattle.laws.specs.Readable.LineKinds.{LineRead}

pub line_read :
    {xs : List ℕ} {i at n kind value from to : ℕ} → i < keys_of xs → n ≡ n_of xs → LineAt xs i at kind value from to →
    LineRead xs i at n kind value from to
line_read below n_is line = record { below = below; n_is = n_is; line = line }
