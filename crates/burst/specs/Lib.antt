-- What a burst over a lent buffer hands back, and what its loop does.
pub mod Lent
