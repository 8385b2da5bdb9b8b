-- What any call hands over, and what it writes where a text is refused (Said); the order of faults of a call's texts (Texts).
pub mod Said
pub mod Texts
