-- Worked values of the definitions (Redis command reference, HSET, HDEL, HGETALL).
use Rattle.std.proofs.Common.{◌≡◌, refl, [], ◌∷◌}
use Rattle.std.specs.Fmt.{digits}
use Rattle.std.specs.Prelude.{Some, None, codes}
use Rattle.hash.specs.Packed.{packed, pairs_in}
use Rattle.hash.specs.Pairs.{fields_changed, value_of}
use Rattle.hash.specs.Size.{words_of, size_of}

-- HSET h a 1 b 2 a 3: the last of repeated names wins, in the place of the first
set_twice : fields_changed [] ((codes "a", Some (codes "1")) ∷ (codes "b", Some (codes "2")) ∷ (codes "a", Some (codes "3")) ∷ []) ≡ (codes "a", codes "3") ∷ (codes "b", codes "2") ∷ []
set_twice = refl

-- HDEL h a b a leaves the others in their order
deleted : fields_changed ((codes "a", codes "1") ∷ (codes "b", codes "2") ∷ (codes "c", codes "3") ∷ (codes "d", codes "4") ∷ []) ((codes "a", None) ∷ (codes "b", None) ∷ (codes "a", None) ∷ [])
    ≡ (codes "c", codes "3") ∷ (codes "d", codes "4") ∷ []
deleted = refl

-- a field that was deleted and is set again comes last
set_after_deletion : fields_changed ((codes "a", codes "1") ∷ (codes "b", codes "2") ∷ []) ((codes "a", None) ∷ (codes "a", Some (codes "3")) ∷ []) ≡ (codes "b", codes "2") ∷ (codes "a", codes "3") ∷ []
set_after_deletion = refl

-- HGETALL lists each field before its value
listed : words_of ((codes "a", codes "3") ∷ (codes "b", codes "") ∷ []) ≡ codes "a" ∷ codes "3" ∷ codes "b" ∷ codes "" ∷ []
listed = refl

-- `$1\r\na\r\n$1\r\n3\r\n$1\r\nb\r\n$0\r\n\r\n`
sized : size_of ((codes "a", codes "3") ∷ (codes "b", codes "") ∷ []) ≡ 27
unfolding digits
sized = refl

-- HGET
found : value_of ((codes "a", codes "3") ∷ (codes "b", codes "2") ∷ []) (codes "b") ≡ Some (codes "2")
found = refl

missing : value_of ((codes "a", codes "3") ∷ []) (codes "aa") ≡ None
missing = refl

-- HSET h a 1 bc "", packed: the length of each word stands before it
together : packed ((codes "a", codes "1") ∷ (codes "bc", codes "") ∷ []) ≡ 1 ∷ 97 ∷ 1 ∷ 49 ∷ 2 ∷ 98 ∷ 99 ∷ 0 ∷ []
together = refl

apart : pairs_in (1 ∷ 97 ∷ 1 ∷ 49 ∷ 2 ∷ 98 ∷ 99 ∷ 0 ∷ []) ≡ (codes "a", codes "1") ∷ (codes "bc", codes "") ∷ []
unfolding pairs_in
apart = refl
