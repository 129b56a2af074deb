-- What a call writes, also where it fails on the way (ours).
use Rattle.std.specs.Prelude.{◌≡◌, ℕ, List, ◌++◌, length, take, Option}
use Rattle.std.specs.Io.KnownBytes.{Appends}
use Rattle.resp2.specs.Counting.{inner_of}
use Rattle.resp2.specs.declared.counting.Counting.{Counting}

-- a beginning of the bytes was written: none, some or all of them
pub record AppendsBeginning (old new : Option (List ℕ)) (bytes : List ℕ) : Type 0 where
  pub written : List ℕ
  pub rest : List ℕ
  pub appends : Appends old new written
  pub split : written ++ rest ≡ bytes

-- a writer of these contents takes the bytes behind those that it holds
abbrev pub Writes : {W : Type 0} → (W → Option (List ℕ)) → W → W → List ℕ → Type 0
Writes contents old new bytes = Appends (contents old) (contents new) bytes

-- it takes a beginning of them
abbrev pub WritesPart : {W : Type 0} → (W → Option (List ℕ)) → W → W → List ℕ → Type 0
WritesPart contents old new bytes = AppendsBeginning (contents old) (contents new) bytes

-- a writer whose failures are counted takes the bytes
abbrev pub Sends : {W : Type 0} → (W → Option (List ℕ)) → Counting W → Counting W → List ℕ → Type 0
Sends contents old new bytes = Writes contents (inner_of old) (inner_of new) bytes

-- it takes a beginning of them
abbrev pub SendsPart : {W : Type 0} → (W → Option (List ℕ)) → Counting W → Counting W → List ℕ → Type 0
SendsPart contents old new bytes = WritesPart contents (inner_of old) (inner_of new) bytes

-- the bytes that were there before are still in front
abbrev pub StayInFront : List ℕ → List ℕ → Type 0
StayInFront before after = take (length before) after ≡ before
