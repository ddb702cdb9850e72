mod Words
mod Numbers
mod Advances
mod Trails
mod Stable
mod Inside
